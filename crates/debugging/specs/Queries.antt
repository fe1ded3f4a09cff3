-- What queries are answered.
use Rattle.std.specs.Prelude.{◌≡◌, ◌⊎◌, ◌==◌, if◌then◌else◌, ℕ, zero, suc, List, [], ◌∷◌, ◌++◌, codes}
use Rattle.debugging.specs.Sessions.{SessionView}
use Rattle.debugging.specs.Notes.{harts_of}
use Rattle.debugging.specs.Stops.{thread_text}

-- `m`, and the threads of so many harts with commas between them
abbrev pub threads_of : ℕ → List ℕ
threads_of zero = []
threads_of (suc harts) = threads_of harts ++ (if harts == 0 then 109 else 44) ∷ thread_text harts

-- what a session can
abbrev pub supported : List ℕ
supported = codes "PacketSize=1000;QStartNoAckMode+;ReverseStep+;ReverseContinue+;qXfer:features:read+;vContSupported+;swbreak+"

-- the query asks for the text, wherever the session stands
abbrev pub AsksForConstant : List ℕ → List ℕ → Type 0
AsksForConstant query text =
    ((query ≡ codes "QStartNoAckMode") × (text ≡ codes "OK")) ⊎
    ((query ≡ codes "qsThreadInfo") × (text ≡ codes "l")) ⊎
    ((query ≡ codes "qAttached") × (text ≡ codes "1")) ⊎
    ((rest : List ℕ) × (query ≡ codes "qSupported" ++ rest) × (text ≡ supported))

-- the query asks for the text
abbrev pub AsksForText : List ℕ → SessionView → List ℕ → Type 0
AsksForText query s text =
    AsksForConstant query text ⊎
    ((query ≡ codes "qfThreadInfo") × (text ≡ threads_of (harts_of s))) ⊎
    ((query ≡ codes "qC") × (text ≡ codes "QC" ++ thread_text s.shown))
