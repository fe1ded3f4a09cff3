-- One write after another.
use Rattle.std.proofs.Common.{◌≡◌, ◌+◌, ◌%◌, ◌^◌, ℕ, List, ◌++◌, Option, Result, Ok, Err, sym, ap, ◌∙◌, subst, append_assoc}
use Rattle.std.specs.Io.KnownBytes.{Appends}
use Rattle.ft_types.specs.Devices.{Writes, IsOneMore}
use Rattle.ft_types.proofs.Writings.{appends_then}

-- a text was not written whole
abbrev pub Stops : Option (List ℕ) → Option (List ℕ) → ℕ → ℕ → List ℕ → Type 0
Stops old new f g text = IsOneMore f g × ((front : List ℕ) × (rest : List ℕ) × (text ≡ front ++ rest) × Appends old new front)

-- it was not written whole with more behind it, either
pub stops_front : (a b : Option (List ℕ)) (f g : ℕ) (xs ys : List ℕ) → Stops a b f g xs → Stops a b f g (xs ++ ys)
stops_front a b f g xs ys q =
    (q.0, (q.1.0, q.1.1 ++ ys, ap (λ (t : List ℕ). t ++ ys) q.1.2 ∙ append_assoc q.1.0 q.1.1 ys, q.1.3))

-- nor behind a text that was
pub stops_after : (a b c : Option (List ℕ)) (f g h : ℕ) (xs ys : List ℕ) → Appends a b xs → g ≡ f → Stops b c g h ys → Stops a c f h (xs ++ ys)
stops_after a b c f g h xs ys p e q = (
  q.0 ∙ ap (λ (k : ℕ). (k + 1) % 2 ^ 64) e,
  (
    xs ++ q.1.0,
    q.1.1,
    ap (λ (t : List ℕ). xs ++ t) q.1.2 ∙ sym (append_assoc xs q.1.0 q.1.1),
    appends_then a b c xs q.1.0 p q.1.3,
  ),
)

pub stops_equal : (a b : Option (List ℕ)) (f g : ℕ) (xs ys : List ℕ) → xs ≡ ys → Stops a b f g xs → Stops a b f g ys
stops_equal a b f g xs ys e q = subst (λ (t : List ℕ). Stops a b f g t) e q

pub writes_then : {A E : Type 0} (r : Result A E) (a b c : Option (List ℕ)) (f g h : ℕ) (xs ys : List ℕ) → Appends a b xs → g ≡ f → Writes r b c g h ys →
    Writes r a c f h (xs ++ ys)
writes_then (Ok x) a b c f g h xs ys p e q = (appends_then a b c xs ys p q.0, q.1 ∙ e)
writes_then (Err x) a b c f g h xs ys p e q = stops_after a b c f g h xs ys p e q

pub writes_equal : {A E : Type 0} (r : Result A E) (a b : Option (List ℕ)) (f g : ℕ) (xs ys : List ℕ) → xs ≡ ys → Writes r a b f g xs → Writes r a b f g ys
writes_equal r a b f g xs ys e q = subst (λ (t : List ℕ). Writes r a b f g t) e q
