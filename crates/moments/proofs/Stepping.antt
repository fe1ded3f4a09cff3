-- A step of a hart on shared RAM.
use Rattle.std.proofs.Common.{◌≡◌, ℕ, zero, suc, ◌+◌, ◌-◌, ◌<◌, ◌^◌, Bool, true, false, List, [], ◌∷◌, length, slice_get, slice_set, slice_index_or, Some, refl, ap}
use Rattle.std.proofs.Common.{sym, subst, ◌∙◌, arith}
use Rattle.std.proofs.lemmas.List.{length-map}
use Rattle.interleaving.specs.Machine.{Effect}
use Rattle.interleaving.specs.Stored.{stored_after, written_in}
use Rattle.ft_types.specs.declared.names.Want.{Want}
use Rattle.ft_types.specs.declared.names.Want.TheVariants.{Read, Write}
use Rattle.input_log.specs.declared.Input.{Input}
use Rattle.rv32_hart.specs.Hart.{Hart}
use Rattle.rv32_hart.specs.Ram.{Ram}
use Rattle.rv32_hart.specs.Step.{IsTaken, IsMissing, effect}
use Rattle.rv32_hart.proofs.Wanted.{missing_there}
use Rattle.guest_image.specs.Machine.{MachineState}
use Rattle.log_audit.proofs.Asking.{lacking}
use Rattle.log_audit.proofs.StepAnswers.{read_state, there_below, set_found}
use Rattle.moments.specs.declared.ram.Part.{Part}
use Rattle.moments.specs.machinery.Parts.{bytes_of, is_own, contents_of, owned, ram_of}
use Rattle.moments.proofs.Parts.{readable}

-- one page more of its own, one fewer that is not
one_fewer : (rights : List Bool) (page : ℕ) → page < length rights → slice_index_or rights page false ≡ false →
    lacking (slice_set rights page true) + 1 ≡ lacking rights
one_fewer [] page lt lacks = absurd (omega (arith, lt))
one_fewer (true ∷ rest) zero lt lacks = cc
one_fewer (false ∷ rest) zero lt lacks = refl
one_fewer (true ∷ rest) (suc page) lt lacks = one_fewer rest page (omega (arith, lt)) lacks
one_fewer (false ∷ rest) (suc page) lt lacks = let less = one_fewer rest page (omega (arith, lt)) lacks in omega (arith, less)

-- what a step lacks is the right to write a page that is there
module _ (inputs : List Input) (state : Hart) (parts : List Part) (page : ℕ) (want : Want) (missing : IsMissing inputs state (ram_of parts) (page, want)) where
  pub lacked_there : page < length parts
  lacked_there =
      let lt = (missing_there state inputs (ram_of parts) page want missing).0 in
      let many : length (contents_of parts) ≡ length parts = length-map parts bytes_of in
      omega (arith, lt, many)

  -- and there it is still, in parts of the same RAM
  pub lacked_in : (left : List Part) → ram_of left ≡ ram_of parts → page < length left
  lacked_in left same =
      let lt = lacked_there in
      let rights : length (owned left) ≡ length (owned parts) = ap (λ (r : Ram). length r.writable) same in
      let many : length (owned parts) ≡ length parts = length-map parts is_own in
      let as_many : length (owned left) ≡ length left = length-map left is_own in
      omega (arith, lt, rights, many, as_many)

  not_own : slice_index_or (owned parts) page false ≡ false
  not_own = of want missing
    where
      of : (w : Want) → IsMissing inputs state (ram_of parts) (page, w) → slice_index_or (owned parts) page false ≡ false
      of Read m = let yes = readable parts page (missing_there state inputs (ram_of parts) page Read m).0 in let no = (missing_there state inputs (ram_of parts) page Read m).1 in cc
      of Write m = (missing_there state inputs (ram_of parts) page Write m).1

  pub fewer_lacking : (left next : List Part) → ram_of left ≡ ram_of parts → owned next ≡ slice_set (owned left) page true →
      lacking (owned next) < lacking (owned parts)
  fewer_lacking left next same put =
      let many : length (owned parts) ≡ length parts = length-map parts is_own in
      let there = lacked_there in
      let fewer = one_fewer (owned parts) page (omega (arith, many, there)) not_own in
      let flags : owned left ≡ owned parts = ap (λ (r : Ram). r.writable) same in
      let is : lacking (owned next) ≡ lacking (slice_set (owned parts) page true) =
      ap lacking (put ∙ ap (λ (bs : List Bool). slice_set bs page true) flags) in
      omega (arith, fewer, is)

module _ (hart : ℕ) (inputs : List Input) (first harts : List Hart) (same_harts : harts ≡ first) (before parts : List Part)
    (same_pages : contents_of parts ≡ contents_of before) (index : ℕ) (index_is : index ≡ hart) (state : Hart)
    (state_is : state ≡ slice_index_or harts index state) where
  abbrev effect_in : List (List ℕ) → Hart → Effect Hart (List ℕ)
  effect_in contents h = effect (length contents) h inputs (slice_get contents)

  pub state_at : (h : Hart) → slice_get first hart ≡ Some h → state ≡ h
  state_at = read_state harts first hart index state same_harts index_is state_is

  pub step_runs : hart < length first → ((h : Hart) → slice_get first hart ≡ Some h → (h.halted ≡ false) × (h.count < 2 ^ 48 - 1)) →
      (state.halted ≡ false) × (state.count < 2 ^ 48 - 1)
  step_runs lt runs =
      let there = there_below first hart lt in
      subst (λ (k : Hart). (k.halted ≡ false) × (k.count < 2 ^ 48 - 1)) (sym (state_at there.0 there.1)) (runs there.0 there.1)

  pub taken : (after : Hart) (left : List Part) → IsTaken inputs state (ram_of parts) after (ram_of left) → (h : Hart) → slice_get first hart ≡ Some h →
      (let m : MachineState = record { harts = slice_set harts index after; pages = contents_of left } in m) ≡
      stored_after (record { harts = first; pages = contents_of before }) hart (effect (length (contents_of before)) h inputs (slice_get (contents_of before)))
  taken after left t h found = λ i. record { harts = harts_are i; pages = pages_are i }
    where
      same : effect_in (contents_of parts) state ≡ effect_in (contents_of before) h
      same = ap (λ (c : List (List ℕ)). effect_in c state) same_pages ∙ ap (effect_in (contents_of before)) (state_at h found)

      harts_are : slice_set harts index after ≡ slice_set first hart (effect_in (contents_of before) h).hart
      harts_are =
          ap (λ (hs : List Hart). slice_set hs index after) same_harts
          ∙ ap (λ (n : ℕ). slice_set first n after) index_is
          ∙ ap (slice_set first hart) (t.hart ∙ ap (λ (e : Effect Hart (List ℕ)). e.hart) same)

      pages_are : contents_of left ≡ written_in (contents_of before) (effect_in (contents_of before) h).write
      pages_are =
          ap (λ (r : Ram). r.contents) t.pages
          ∙ ap (λ (c : List (List ℕ)). written_in c (effect_in (contents_of parts) state).write) same_pages
          ∙ ap (λ (e : Effect Hart (List ℕ)). written_in (contents_of before) e.write) same

  -- a step that was not taken leaves the machine
  pub put_back : (after : Hart) → after ≡ state → hart < length first → slice_set harts index after ≡ first
  put_back after kept lt =
      let there = there_below first hart lt in
      ap (λ (n : ℕ). slice_set harts n after) index_is
      ∙ (ap (λ (hs : List Hart). slice_set hs hart after) same_harts
      ∙ set_found first hart after (there.1 ∙ ap Some (sym (kept ∙ state_at there.0 there.1))))
