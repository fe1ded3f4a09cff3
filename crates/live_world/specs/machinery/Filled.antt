-- What new files tell of how they were filled. Machinery: nothing here needs to be believed.
use Rattle.std.specs.Prelude.{◌≡◌, List, [], ◌∷◌}
use Rattle.stations.specs.Acts.{Act}
use Rattle.stations.specs.Handshake.{Files, Did, after}
use Rattle.live_world.specs.Shelves.{ShelfView, empty_shelf}

-- the files behind these acts, and nothing else
abbrev pub behind : Files → List Act → Files
behind files [] = files
behind files (act ∷ acts) = behind (after files (Did act)) acts

-- these acts, from files with which nothing was done
abbrev pub TellsNew : ShelfView → List Act → Type 0
TellsNew now done = now ≡ record empty_shelf { files = behind empty_shelf.files done }
