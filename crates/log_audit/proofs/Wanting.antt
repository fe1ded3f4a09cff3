-- What a step lacks, it uses.
use Rattle.std.proofs.Common.{◌≡◌, ℕ, List, [], ◌∷◌, length, map, Bool, true, false, Option, None, Some, MatchOption, slice_get, Contains, option_map, refl, ap, sym}
use Rattle.std.proofs.Common.{subst, ◌∙◌, arith, if◌then◌else◌}
use Rattle.interleaving.specs.Machine.{Write}
use Rattle.ft_types.specs.declared.names.Want.{Want}
use Rattle.ft_types.specs.declared.names.Want.TheVariants.{Read, Write as WriteRight}
use Rattle.input_log.specs.declared.Input.{Input}
use Rattle.rv32_hart.specs.Hart.{Hart}
use Rattle.rv32_hart.specs.Ram.{Ram}
use Rattle.rv32_hart.specs.Csrs.{received_all}
use Rattle.rv32_hart.specs.Access.{Access, Alone, Reading, Writing, Step, Taken, Fetching, next_step}
use Rattle.rv32_hart.specs.Step.{Contents, Wanted, IsMissing, bytes_of, access_wants, access_write, step_wants, step_effect, first_missing, has_right, effect_on}

-- the page is touched, and written where the right is one to write
abbrev pub IsUsed : List ℕ → Option (Write (List ℕ)) → Contents → ℕ → Want → Type 0
IsUsed touched write contents page want =
    Contains touched page × (want ≡ WriteRight → (bytes : List ℕ) → contents page ≡ Some bytes → MatchOption write ⊥ (λ w. w.page ≡ page))

of_some : (b : Bool) (w v : Wanted) → (if b then None else Some w) ≡ Some v → w ≡ v
of_some true w v e = cc
of_some false w v e = cc

read_is_no_write : Read ≡ WriteRight → ⊥
read_is_no_write e = cc

second : (fetch : ℕ) (page : ℕ) → Contains (fetch ∷ page ∷ []) page
second fetch page = (1, omega arith, refl)

access_used : (ram : Ram) (fetch : ℕ) (a : Access) (contents : Contents) (page : ℕ) (want : Want) → first_missing ram (access_wants a) ≡ Some (page, want) →
    IsUsed (fetch ∷ map (λ (w : Wanted). w.0) (access_wants a)) (access_write a contents) contents page want
access_used ram fetch (Alone h) contents page want e = cc
access_used ram fetch (Reading q hart) contents page want e =
    let is : (q, Read) ≡ (page, want) = of_some (has_right ram (q, Read)) (q, Read) (page, want) e in (
      subst (λ (p : ℕ). Contains (fetch ∷ q ∷ []) p) (ap (λ (w : Wanted). w.0) is) (second fetch q),
      λ writes bytes there. absurd (read_is_no_write (ap (λ (w : Wanted). w.1) is ∙ writes)),
    )
access_used ram fetch (Writing q hart bytes) contents page want e =
    let is : (q, WriteRight) ≡ (page, want) = of_some (has_right ram (q, WriteRight)) (q, WriteRight) (page, want) e in
    let same : q ≡ page = ap (λ (w : Wanted). w.0) is in (
      subst (λ (p : ℕ). Contains (fetch ∷ q ∷ []) p) same (second fetch q),
      λ writes old there.
          let made : ℕ → Option (List ℕ) → Option (Write (List ℕ)) =
          λ p o. option_map (λ (b : List ℕ). let w : Write (List ℕ) = record { page = p; contents = bytes b } in w) o in
          let here : made q (contents q) ≡ made q (Some old) = ap (made q) (ap contents same ∙ there) in
          subst (λ (o : Option (Write (List ℕ))). MatchOption o ⊥ (λ w. w.page ≡ page)) (sym here) same,
    )

fetched : (ram : Ram) (fetch : ℕ) (a : Access) (contents : Contents) (page : ℕ) (want : Want) (b : Bool) →
    (if b then first_missing ram (access_wants a) else Some (fetch, Read)) ≡ Some (page, want) →
    IsUsed (fetch ∷ map (λ (w : Wanted). w.0) (access_wants a)) (access_write a contents) contents page want
fetched ram fetch a contents page want true e = access_used ram fetch a contents page want e
fetched ram fetch a contents page want false e =
    let is : (fetch, Read) ≡ (page, want) = cc in (
      subst (λ (p : ℕ). Contains (fetch ∷ map (λ (w : Wanted). w.0) (access_wants a)) p) (ap (λ (w : Wanted). w.0) is) (0, omega arith, refl),
      λ writes bytes there. absurd (read_is_no_write (ap (λ (w : Wanted). w.1) is ∙ writes)),
    )

step_used : (ram : Ram) (s : Step) (contents : Contents) (page : ℕ) (want : Want) → first_missing ram (step_wants s contents) ≡ Some (page, want) →
    IsUsed (step_effect s contents).touched (step_effect s contents).write contents page want
step_used ram (Taken h) contents page want e = cc
step_used ram (Fetching q access) contents page want e = fetched ram q (access (bytes_of contents q)) contents page want (has_right ram (q, Read)) e

pub missing_used : (inputs : List Input) (h : Hart) (ram : Ram) (page : ℕ) (want : Want) → IsMissing inputs h ram (page, want) →
    IsUsed (effect_on ram h inputs).touched (effect_on ram h inputs).write (slice_get ram.contents) page want
missing_used inputs h ram page want m =
    step_used ram (next_step (length ram.contents) (received_all inputs h)) (slice_get ram.contents) page want m.missing
