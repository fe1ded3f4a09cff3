-- A lease of a hart that went out without its outputs, and the same of one with all of them.
use Rattle.std.proofs.Common.{◌≡◌, ◌<◌, ℕ, zero, suc, List, [], ◌∷◌, ◌++◌, length, slice_get, slice_set, take, Option, Some, refl, ap, sym, ◌∙◌, append-nil}
use Rattle.std.proofs.lemmas.List.{append_cancel_left, set-set}
use Rattle.std.proofs.Math.Seq.{take-append_seam}
use Rattle.hart_lease.proofs.journals.GoingOn.{get-set_here}
use Rattle.rv32_hart.specs.Hart.{Hart, without_outputs, with_earlier, with_outputs_of}
use Rattle.guest_image.specs.Machine.{MachineState, with_hart}
use Rattle.hart_lease.specs.declared.taken.Taken.{Taken}
use Rattle.hart_lease.specs.Runs.{StandsIn}
use Rattle.hart_lease.specs.Leases.{LeaseView, IsLent, IsLentAt, outputs_of, whole_in, laid, laid_pages}

-- a hart is itself without its outputs, put behind them
pub hart_whole : (h base : Hart) → without_outputs h ≡ base → h ≡ with_earlier h.outputs base
hart_whole h base e = ap (λ outs. record h { outputs = outs }) (sym (append-nil h.outputs)) ∙ ap (with_earlier h.outputs) e

pub hart_bare : (h base : Hart) → h ≡ with_earlier h.outputs base → without_outputs h ≡ base
hart_bare h base e =
    let none : base.outputs ≡ [] = append_cancel_left h.outputs base.outputs [] (sym (ap (λ k. k.outputs) e) ∙ sym (append-nil h.outputs)) in
    ap without_outputs e ∙ ap (λ outs. record base { outputs = outs }) (sym none)

pub lent_whole : (m : MachineState) (taken : List (Option Taken)) (l : LeaseView) (h : Hart) → slice_get m.harts l.hart ≡ Some h → without_outputs h ≡ l.base →
    length m.pages ≡ length l.slots → l.taken ≡ taken → ((page : ℕ) → page < length l.slots → IsLentAt m l page) → IsLent m taken (whole_in m l)
lent_whole m taken l h is bare many counts pages = record {
  state = is ∙ ap (λ k. Some k) (hart_whole h l.base bare ∙ ap (λ (o : Option Hart). with_earlier (outputs_of o) l.base) (sym is));
  as_many = sym many;
  counts = counts;
  pages = pages;
}

pub lent_bare : (m : MachineState) (taken : List (Option Taken)) (l : LeaseView) (h : Hart) → slice_get m.harts l.hart ≡ Some h →
    IsLent m taken (whole_in m l) →
    without_outputs h ≡ l.base
lent_bare m taken l h is lent =
    let same : Some h ≡ Some (with_earlier h.outputs l.base) =
    sym is ∙ (lent.state ∙ ap (λ (o : Option Hart). Some (with_earlier (outputs_of o) l.base)) is) in
    hart_bare h l.base cc

-- The machine, once the outputs of a lease stand behind those of its hart.

set_there : {A : Type 0} (xs : List A) (i : ℕ) (x : A) → slice_get xs i ≡ Some x → slice_set xs i x ≡ xs
set_there [] i x e = refl
set_there (y ∷ ys) zero x e = let same : y ≡ x = cc in ap (λ z. z ∷ ys) (sym same)
set_there (y ∷ ys) (suc i) x e = ap (λ zs. y ∷ zs) (set_there ys i x e)

-- the hart, with these outputs behind its own
abbrev pub longer : Hart → List (ℕ × ℕ) → Hart
longer h more = record h { outputs = h.outputs ++ more }

-- the machine has the hart with them
pub longer_there : (m : MachineState) (i : ℕ) (h : Hart) (more : List (ℕ × ℕ)) → slice_get m.harts i ≡ Some h →
    slice_get (with_hart m i (longer h more)).harts i ≡ Some (longer h more)
longer_there m i h more is = get-set_here m.harts i (longer h more) h is

-- and is as it was, once they are cut off
pub cut_back : (m : MachineState) (i : ℕ) (h : Hart) (more : List (ℕ × ℕ)) → slice_get m.harts i ≡ Some h →
    with_hart (with_hart m i (longer h more)) i (record (longer h more) { outputs = take (length h.outputs) (longer h more).outputs }) ≡ m
cut_back m i h more is =
    ap (λ (hs : List Hart). let w : MachineState = record m { harts = hs } in w)
    (set-set m.harts i (longer h more) (record (longer h more) { outputs = take (length h.outputs) (longer h more).outputs }) ∙
    (ap (λ (outs : List (ℕ × ℕ)). slice_set m.harts i (record h { outputs = outs })) (take-append_seam h.outputs more) ∙ set_there m.harts i h is))

-- With the outputs of a lease behind those of its hart, it gets the lease's hart and pages.
pub laid_longer : (m : MachineState) (l : LeaseView) (h : Hart) → slice_get m.harts l.hart ≡ Some h →
    laid (with_hart m l.hart (longer h l.present.outputs)) (record l { present = with_outputs_of (longer h l.present.outputs) l.present }) ≡ laid m
    (whole_in m l)
laid_longer m l h is =
    ap (λ (hs : List Hart). let w : MachineState = record { harts = hs; pages = laid_pages m.pages l.slots } in w)
    (set-set m.harts l.hart (longer h l.present.outputs) (with_outputs_of (longer h l.present.outputs) l.present) ∙
    ap (λ (o : Option Hart). slice_set m.harts l.hart (with_earlier (outputs_of o) l.present)) (sym is))

-- the hart that a lease was lent by is the lease's, but for its outputs
pub base_bare : (m : MachineState) (l : LeaseView) (h : Hart) → slice_get m.harts l.hart ≡ Some h → StandsIn m (whole_in m l) →
    without_outputs h ≡ without_outputs l.base
base_bare m l h is on =
    let same : Some h ≡ Some (with_earlier (outputs_of (slice_get m.harts l.hart)) l.base) = sym is ∙ on.state in
    let here : h ≡ with_earlier (outputs_of (slice_get m.harts l.hart)) l.base = cc in
    ap without_outputs here
