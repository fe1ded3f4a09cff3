-- The world stays one that comes in the theory: what keepers do, and what stops.
use Rattle.std.proofs.Common.{◌≡◌, ℕ, zero, suc, ◌<◌, Bool, false, List, [], ◌∷◌, length, slice_get, slice_set, slice_index_or, Contains, Option, Some, None, refl, sym, subst, ◌∙◌, arith}
use Rattle.guest_image.specs.Image.{guest_of}
use Rattle.fragment_codec.specs.declared.frame.Frame.{Frame}
use Rattle.log_join.specs.Stores.{StoreView, IsJoin, alone, nothing}
use Rattle.closed_cut.specs.Position.{IsPosition}
use Rattle.ft_types.specs.declared.position.Position.{Position}
use Rattle.ft_types.specs.declared.output.Output.{Output}
use Rattle.output_gate.specs.Gates.{mark_at, gone_of}
use Rattle.term_gate.specs.TermGates.{TermGateView}
use Rattle.failover_world.specs.machinery.Stopping as theory
use Rattle.primary.specs.declared.released.Released.{Released}
use Rattle.failover_world.specs.Worlds.{WorldView, store_at, term_of}
use Rattle.failover_world.specs.machinery.Tied.{theory_released, theory_world, quorum_of, IsTied}
use Rattle.interleaving.specs.Lists.{put}
use Rattle.failover_world.proofs.Stopping.{delivers, joins, loses, acknowledges}
use Rattle.failover_world.proofs.Places.{row_put, acked_put, there_too, is_below}

pub contained : {A : Type 0} (xs : List A) (k : ℕ) (x : A) → slice_get xs k ≡ Some x → Contains xs x
contained [] k x is = absurd cc
contained (y ∷ xs) zero x is = (0, omega arith, let e : y ≡ x = cc in e)
contained (y ∷ xs) (suc k) x is = let (j, below, same) = contained xs k x is in (suc j, omega (arith, below), same)

module _ (v : WorldView) (is : IsTied v) where
  -- what else there is than terms and frames may change as it does in the theory
  pub changed : (runs : Bool) (stores : List (Option StoreView)) (gate : TermGateView) (released : List Released) (out : List theory.Released) →
      theory.Comes is.is_recorder.recorder (guest_of v.image) (quorum_of v) (theory_world v.image.pages is.are_theory (guest_of v.image)
      (record v { runs = runs; stores = stores; gate = gate; released = released }) is.terms is.notes is.marks out) →
      ((r : Released) → Contains released r → Contains out (theory_released r)) →
      ((r : theory.Released) → Contains out r → (q : Released) × Contains released q × (theory_released q ≡ r)) →
      ((hart : ℕ) → mark_at gate.gate hart ≡ mark_at v.gate.gate hart) →
      ((hart : ℕ) (o : Output) → Contains (gone_of gate.gate hart) o → theory.WentOut out hart o.number) →
      IsTied (record v { runs = runs; stores = stores; gate = gate; released = released })
  changed runs stores gate released out comes went_out no_more marks gone_out =
      record {
        are_theory = is.are_theory;
        is_recorder = is.is_recorder;
        terms = is.terms;
        notes = is.notes;
        marks = is.marks;
        out = out;
        comes = comes;
        went_out = went_out;
        no_more = no_more;
        gone_out = gone_out;
        noted = is.noted;
        noted_before = is.noted_before;
        marked = λ hart. is.marked hart ∙ sym (marks hart);
        pieces = is.pieces;
        is_book = is.is_book;
        there = is.there;
        of_book = is.of_book;
        sealed = is.sealed;
        opened = is.opened;
        longer = is.longer;
        before = is.before;
        no_other = is.no_other;
      }

  -- a keeper's store is another
  module _ (keeper : ℕ) (s : StoreView) (there : store_at v.stores keeper ≡ Some s) where
    in_theory : slice_index_or v.stores keeper (Some (nothing (guest_of v.image))) ≡ Some s
    in_theory = there_too v.stores keeper s (Some (nothing (guest_of v.image))) there

    now_held : (x : Option StoreView) →
        theory.Comes is.is_recorder.recorder (guest_of v.image) (quorum_of v)
        (record (theory_world v.image.pages is.are_theory (guest_of v.image) v is.terms is.notes is.marks is.out) {
          stores = put (λ j. slice_index_or v.stores j (Some (nothing (guest_of v.image)))) keeper x;
        }) →
        IsTied (record v { stores = slice_set v.stores keeper x })
    now_held x comes =
        changed v.runs (slice_set v.stores keeper x) v.gate v.released is.out
        (subst
        (λ t. theory.Comes is.is_recorder.recorder (guest_of v.image) (quorum_of v)
        (record (theory_world v.image.pages is.are_theory (guest_of v.image) v is.terms is.notes is.marks is.out) { stores = t }))
        (sym (row_put v.stores keeper x (Some (nothing (guest_of v.image))) (is_below v.stores keeper s there))) comes) is.went_out is.no_more (λ hart. refl) is.gone_out

    pub delivered : (number : ℕ) (f : Frame) (r : StoreView) → slice_get v.sent number ≡ Some f → IsJoin s (alone f) r →
        IsTied (record v { stores = slice_set v.stores keeper (Some r) })
    delivered number f r sent join =
        now_held (Some r) (delivers is.is_recorder.recorder (guest_of v.image) (quorum_of v) is.comes keeper s r f in_theory (contained v.sent number f sent) join)

    pub joined : (other : ℕ) (t r : StoreView) → store_at v.stores other ≡ Some t → IsJoin s t r →
        IsTied (record v { stores = slice_set v.stores keeper (Some r) })
    joined other t r at_other join =
        now_held (Some r)
        (joins is.is_recorder.recorder (guest_of v.image) (quorum_of v) is.comes keeper other s t r in_theory
        (there_too v.stores other t (Some (nothing (guest_of v.image))) at_other) join)

    pub lost : IsTied (record v { stores = slice_set v.stores keeper None })
    lost = now_held None (loses is.is_recorder.recorder (guest_of v.image) (quorum_of v) is.comes keeper)

    pub acknowledged : (p : Position) → IsPosition s p → p.term ≡ term_of v → keeper < length v.gate.acked →
        IsTied (record v { gate = record v.gate { acked = slice_set v.gate.acked keeper p.counts } })
    acknowledged p is_position term below =
        changed v.runs v.stores (record v.gate { acked = slice_set v.gate.acked keeper p.counts }) v.released is.out
        (subst
        (λ t. theory.Comes is.is_recorder.recorder (guest_of v.image) (quorum_of v)
        (record (theory_world v.image.pages is.are_theory (guest_of v.image) v is.terms is.notes is.marks is.out) { acked = t }))
        (sym (acked_put v.gate.acked keeper p.counts below))
        (acknowledges is.is_recorder.recorder (guest_of v.image) (quorum_of v) is.comes keeper s p in_theory is_position term)) is.went_out is.no_more (λ hart. refl) is.gone_out

  pub stopped : IsTied (record v { runs = false })
  stopped = changed false v.stores v.gate v.released is.out is.comes is.went_out is.no_more (λ hart. refl) is.gone_out
