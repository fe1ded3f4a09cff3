-- Pages that are to be read or written.
use Rattle.std.specs.Prelude.{◌⊎◌, ℕ, List, Bool}
use Rattle.ft_types.specs.Sets.{IsMember}
use Rattle.ft_types.specs.declared.names.Want.{Want}
use Rattle.ft_types.specs.declared.names.Want.TheVariants.{Read, Write}

-- for each page, whether it is to be read, and whether it is to be written
pub record Pages : Type 0 where
  pub reads : List Bool
  pub writes : List Bool

-- the page is among them for this
abbrev pub HasFor : Pages → Want → ℕ → Type 0
HasFor pages Read page = IsMember pages.reads page
HasFor pages Write page = IsMember pages.writes page

-- the page is among them, whatever for
abbrev pub Has : Pages → ℕ → Type 0
Has pages page = HasFor pages Read page ⊎ HasFor pages Write page

-- one has a page to write that the other has
abbrev pub IsAgainst : Pages → Pages → Type 0
IsAgainst these those = (page : ℕ) × ((HasFor these Write page × Has those page) ⊎ (Has these page × HasFor those Write page))
