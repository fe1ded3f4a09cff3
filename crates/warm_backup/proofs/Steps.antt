-- What is added to a leg, piece after piece.
use Rattle.std.proofs.Common.{◌≡◌, inl, inr, ℕ, ◌<◌, ◌≤◌, List, [], ◌++◌, length, refl, sym, ap, subst, ◌∙◌, arith, append-nil, append_assoc, le_refl, le_trans}
use Rattle.std.proofs.Common.{length-set, slice_set}
use Rattle.std.proofs.lemmas.Bool.{cases_eq}
use Rattle.std.proofs.lemmas.List.Elements.{All-append, All-nil, All-weaker}
use Rattle.ft_types.specs.Counts.{count_at}
use Rattle.edge_log.specs.EdgeLog.{Edges, edges_of, start_of}
use Rattle.interleaving.specs.Log.{Edge}
use Rattle.interleaving.specs.Cuts.{IsEnough}
use Rattle.input_log.specs.declared.Input.{Input}
use Rattle.input_log.specs.Inputs.{inputs_of, HearsMore}
use Rattle.page_book.proofs.Later.{adds_nothing, adds_on}
use Rattle.fragment_codec.specs.declared.types.Record.{Record}
use Rattle.log_join.specs.Stores.{StoreView}
use Rattle.closed_cut.specs.Position.{pieces_of, Goes, Avail}
use Rattle.book_modes.specs.declared.mode.Leg.{Leg}
use Rattle.hart_replay.specs.declared.plans.PlannedLeg.{PlannedLeg}
use Rattle.hart_replay.specs.Facts.{records_of, below, edges_among, inputs_among, notes_among}
use Rattle.hart_replay.specs.machinery.Taking.{TakesEdges, TakesUnmet, TakesInputs, TakesNotes}
use Rattle.hart_replay.proofs.gathering.Records.{edges_among-append, inputs_among-append, notes_among-append, takes_both, takes_both_unmet}
use Rattle.hart_replay.proofs.gathering.Inputs.{takes_both as takes_both_inputs}
use Rattle.hart_replay.proofs.gathering.Notes.{takes_both as takes_both_notes, takes_nothing}
use Rattle.warm_backup.specs.machinery.Growing.{HasFacts, TakesFacts, TakesWork, GrowsFrom}
use Rattle.warm_backup.proofs.Grown.{end_here, end_there, has_edges, has_inputs, has_marks}

-- ---- one after the other

takes_no_edges : (hart : ℕ) (log : Edges) → TakesEdges hart log [] log
takes_no_edges hart log =
    record {
      start = refl;
      others = λ other ne. refl;
      enough = λ all was. subst (λ (l : List Edge). IsEnough (edges_of log) l (start_of log)) (sym (append-nil all)) was;
    }

takes_no_inputs : (hart : ℕ) (log : List (List (ℕ × Input))) → TakesInputs hart log [] log
takes_no_inputs hart log = record { own = sym (append-nil (inputs_of log hart)); others = λ other ne. refl }

more_edges : (hart : ℕ) (old mid new : Edges) (a b : List Record) → TakesEdges hart old (edges_among a) mid → TakesEdges hart mid (edges_among b) new →
    TakesEdges hart old (edges_among (a ++ b)) new
more_edges hart old mid new a b one two =
    subst (λ (l : List Edge). TakesEdges hart old l new) (sym (edges_among-append a b)) (takes_both hart old mid new (edges_among a) (edges_among b) one two)

more_inputs : (hart : ℕ) (old mid new : List (List (ℕ × Input))) (a b : List Record) → TakesInputs hart old (inputs_among a) mid →
    TakesInputs hart mid (inputs_among b) new → TakesInputs hart old (inputs_among (a ++ b)) new
more_inputs hart old mid new a b one two =
    subst (λ (l : List (ℕ × Input)). TakesInputs hart old l new) (sym (inputs_among-append a b))
    (takes_both_inputs hart old mid new (inputs_among a) (inputs_among b) one two)

pub takes_no_facts : (hart : ℕ) (leg : PlannedLeg) → TakesFacts hart leg [] leg
takes_no_facts hart leg =
    record {
      term = refl;
      base = refl;
      edges = takes_no_edges hart leg.edges;
      inputs = takes_no_inputs hart leg.inputs;
      notes = takes_nothing hart leg.marks;
    }

pub takes_no_work : (hart : ℕ) (now : ℕ → ℕ) (rest : Leg) → TakesWork hart now rest [] rest
takes_no_work hart now rest =
    record {
      edges =
          record {
            start = refl;
            others = λ other ne. refl;
            enough = λ all was. subst (λ (l : List Edge). IsEnough (edges_of rest.edges) l now) (sym (append-nil all)) was;
          };
      inputs = takes_no_inputs hart rest.inputs;
    }

pub takes_more_facts : (hart : ℕ) (old mid new : PlannedLeg) (a b : List Record) → TakesFacts hart old a mid → TakesFacts hart mid b new →
    TakesFacts hart old (a ++ b) new
takes_more_facts hart old mid new a b one two =
    record {
      term = two.term ∙ one.term;
      base = two.base ∙ one.base;
      edges = more_edges hart old.edges mid.edges new.edges a b one.edges two.edges;
      inputs = more_inputs hart old.inputs mid.inputs new.inputs a b one.inputs two.inputs;
      notes =
          subst (λ (l : List (ℕ × ℕ)). TakesNotes hart old.marks l new.marks) (sym (notes_among-append a b))
          (takes_both_notes hart old.marks mid.marks new.marks (notes_among a) (notes_among b) one.notes two.notes);
    }

pub takes_more_work : (hart : ℕ) (now : ℕ → ℕ) (old mid new : Leg) (a b : List Record) → TakesWork hart now old a mid → TakesWork hart now mid b new →
    TakesWork hart now old (a ++ b) new
takes_more_work hart now old mid new a b one two =
    record {
      edges =
          subst (λ (l : List Edge). TakesUnmet hart now old.edges l new.edges) (sym (edges_among-append a b))
          (takes_both_unmet hart now old.edges mid.edges new.edges (edges_among a) (edges_among b) one.edges two.edges);
      inputs = more_inputs hart old.inputs mid.inputs new.inputs a b one.inputs two.inputs;
    }

pub hears_nothing : (row : List (ℕ × Input)) (count : ℕ) → HearsMore row count row
hears_nothing row count = ([], sym (append-nil row), All-nil (λ x. count ≤ x.0))

pub hears_on : (a b c : List (ℕ × Input)) (m n : ℕ) → m ≤ n → HearsMore a m b → HearsMore b n c → HearsMore a m c
hears_on a b c m n le (more, is, late) (rest, so, later) = (
  more ++ rest,
  so ∙ (ap (λ l. l ++ rest) is ∙ append_assoc a more rest),
  All-append (λ x. m ≤ x.0) more rest late (All-weaker (λ x. n ≤ x.0) (λ x. m ≤ x.0) (λ x l. le_trans le l) rest later),
)

pub grows_nothing : (hart from : ℕ) (leg : PlannedLeg) → GrowsFrom hart from leg leg
grows_nothing hart from leg =
    record {
      term = refl;
      base = refl;
      edges = λ settled le. adds_nothing leg.edges settled leg.edges refl;
      inputs = hears_nothing (inputs_of leg.inputs hart) from;
      others = λ other ne. refl;
    }

pub grows_on : (hart from count : ℕ) (old mid new : PlannedLeg) → from ≤ count → GrowsFrom hart from old mid → GrowsFrom hart count mid new → GrowsFrom hart from old new
grows_on hart from count old mid new le one two =
    record {
      term = two.term ∙ one.term;
      base = two.base ∙ one.base;
      edges =
          λ settled early.
          adds_on old.edges settled mid.edges settled new.edges (λ h. le_refl (settled h)) (one.edges settled early) (two.edges settled (le_trans early le));
      inputs = hears_on (inputs_of old.inputs hart) (inputs_of mid.inputs hart) (inputs_of new.inputs hart) from count le one.inputs two.inputs;
      others = λ other ne. two.others other ne ∙ one.others other ne;
    }

-- ---- a leg whose hart has come to a later end

module _ (store : StoreView) (old new : PlannedLeg) (hart end : ℕ) (added : List Record) (was : HasFacts store old) (taken : TakesFacts hart old added new)
    (ends : new.ends ≡ slice_set old.ends hart end) (there : hart < length old.base)
    (grows : (places far : ℕ) → Goes (pieces_of store old.term hart) (count_at old.base hart) places far → end ≤ far →
    below end (records_of (pieces_of store old.term hart) places) ≡ below (count_at old.ends hart) (records_of (pieces_of store old.term hart) places) ++ added)
    (inside : (avail : Avail store old.term (count_at old.base)) → end ≤ avail.end hart) where
  within : hart < length old.ends
  within = omega (arith, there, was.many_ends)

  pub has_facts : HasFacts store new
  has_facts =
      record {
        start = taken.edges.start ∙ (was.start ∙ sym taken.base);
        harts = ap length taken.base ∙ was.harts;
        many_ends = ap length ends ∙ (length-set old.ends hart end ∙ (was.many_ends ∙ ap length (sym taken.base)));
        inside =
            rw (taken.term, taken.base)
            (λ avail other.
            elim (cases_eq other hart) [
              | inl same ↦ rw (same, end_here store old new hart end added taken.term taken.base ends within grows inside) (inside avail)
              | inr ne ↦ rw (end_there store old new hart end added taken.term taken.base ends within grows inside other ne) (was.inside avail other)
            ]);
        edges = has_edges store old new hart end added taken.term taken.base ends within grows inside was.edges taken.edges was.start;
        inputs = has_inputs store old new hart end added taken.term taken.base ends within grows inside was.inputs taken.inputs;
        marks = has_marks store old new hart end added taken.term taken.base ends within grows inside was.marks taken.notes;
      }
