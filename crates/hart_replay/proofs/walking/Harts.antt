-- What a leg gets of all harts, one after the other.
use Rattle.std.proofs.Common.{◌≡◌, ◌≢◌, ◌↔◌, inl, inr, ℕ, ◌+◌, ◌<◌, ◌≤◌, max, length, List, [], ◌++◌, Contains, refl, sym, ap, subst, ◌∙◌, arith}
use Rattle.std.proofs.lemmas.Bool.{cases_lt, cases_eq}
use Rattle.std.proofs.lemmas.List.Elements.{Contains-append_cases, Contains-append_left, Contains-append_right}
use Rattle.ft_types.specs.Counts.{count_at}
use Rattle.interleaving.specs.Lists.{put}
use Rattle.interleaving.specs.Log.{Edge}
use Rattle.interleaving.specs.Cuts.{IsEnough}
use Rattle.interleaving.proofs.Put.{put_same, put_other}
use Rattle.interleaving.proofs.Cuts.{same_order}
use Rattle.edge_log.specs.EdgeLog.{Edges, edges_of, row_of}
use Rattle.input_log.specs.declared.Input.{Input}
use Rattle.input_log.specs.Inputs.{inputs_of}
use Rattle.input_log.specs.Notes.{greatest}
use Rattle.fragment_codec.specs.declared.types.Record.{Record}
use Rattle.fragment_codec.specs.Rules.{FragmentParts}
use Rattle.log_join.specs.Cells.{One}
use Rattle.log_join.specs.Stores.{StoreView, IsStore}
use Rattle.closed_cut.specs.Position.{pieces_of, Goes, Avail}
use Rattle.hart_replay.specs.declared.plans.PlannedLeg.{PlannedLeg}
use Rattle.hart_replay.specs.Facts.{records_of, below, edges_among, inputs_among, notes_among, HasEdges, HasInputs, HasMarks}
use Rattle.hart_replay.specs.machinery.Taking.{TakesHart}
use Rattle.hart_replay.proofs.gathering.Pieces.{hart_is, harts_are, rules_of}

-- a hart's facts over so many places
abbrev pub facts : StoreView → ℕ → List ℕ → ℕ → ℕ → List Record
facts store term ends hart places = below (count_at ends hart) (records_of (pieces_of store term hart) places)

-- what a leg got of the first harts
pub record AreTaken (store : StoreView) (term : ℕ) (base ends : List ℕ) (log : Edges) (given : List (List (ℕ × Input))) (marks : List ℕ) (number : ℕ) :
    Type 0 where
  pub places : ℕ → ℕ
  pub end : ℕ → ℕ
  pub goes : (h : ℕ) → Goes (pieces_of store term h) (count_at base h) (places h) (end h)
  pub stops : (h : ℕ) → h < number → (piece : FragmentParts) → pieces_of store term h (places h) ≡ One piece → piece.from ≡ end h → ⊥
  pub unmoved : (h : ℕ) → number ≤ h → places h ≡ 0
  pub all : List Edge
  pub exact : (e : Edge) → Contains all e ↔ ((h : ℕ) × Contains (edges_among (facts store term ends h (places h))) e)
  pub start : log.start ≡ base
  pub enough : IsEnough (edges_of log) all (count_at base)
  pub no_edges : (h : ℕ) → number ≤ h → row_of log h ≡ []
  pub inputs : (h : ℕ) → inputs_of given h ≡ inputs_among (facts store term ends h (places h))
  pub many : length marks ≡ length base
  pub marked : (h : ℕ) → count_at marks h ≡ greatest (notes_among (facts store term ends h (places h)))

-- a leg without facts
pub taken_none : (store : StoreView) (term : ℕ) (base ends : List ℕ) (log : Edges) (given : List (List (ℕ × Input))) (marks : List ℕ) → log.start ≡ base →
    edges_of log ≡ [] → ((h : ℕ) → row_of log h ≡ []) → ((h : ℕ) → inputs_of given h ≡ []) → length marks ≡ length base → ((h : ℕ) → count_at marks h ≡ 0) →
    AreTaken store term base ends log given marks 0
taken_none store term base ends log given marks start none rows inputs many zeros =
    record {
      places = λ h. 0;
      end = count_at base;
      goes = λ h. refl;
      stops = λ h less piece one from. absurd (omega arith);
      unmoved = λ h le. refl;
      all = [];
      exact = λ e. ((λ (k, below, is). absurd (omega arith)), (λ (h, (k, below, is)). absurd (omega arith)));
      start = start;
      enough =
          rw none
          (record {
            among = λ e (k, below, is). absurd (omega arith);
            implied = λ e (k, below, is). absurd (omega arith);
            start_closed = λ e (k, below, is) l. absurd (omega arith);
          });
      no_edges = λ h le. rows h;
      inputs = inputs;
      many = many;
      marked = zeros;
    }

module _ (store : StoreView) (old new : PlannedLeg) (number : ℕ)
    (so_far : AreTaken store old.term old.base old.ends old.edges old.inputs old.marks number) (more : TakesHart store number old new) where
  abbrev moved : ℕ → ℕ
  moved = put so_far.places number more.places

  abbrev reached : ℕ → ℕ
  reached = put so_far.end number more.end

  -- the hart's facts were none
  was_none : facts store old.term old.ends number (so_far.places number) ≡ []
  was_none = rw (so_far.unmoved number (omega arith)) refl

  here : moved number ≡ more.places
  here = put_same so_far.places number number more.places refl

  others : (h : ℕ) → h ≢ number → moved h ≡ so_far.places h
  others h ne = put_other so_far.places number h more.places (λ e. ne (sym e))

  abbrev added : List Edge
  added = edges_among (facts store old.term old.ends number more.places)

  goes_after : (h : ℕ) → Goes (pieces_of store old.term h) (count_at old.base h) (moved h) (reached h)
  goes_after h =
      elim (cases_eq h number) [
        | inl same ↦ rw (same, put_same so_far.places number number more.places refl, put_same so_far.end number number more.end refl) more.goes
        | inr ne ↦ rw (others h ne, put_other so_far.end number h more.end (λ e. ne (sym e))) (so_far.goes h)
      ]

  stops_after : (h : ℕ) → h < number + 1 → (piece : FragmentParts) → pieces_of store old.term h (moved h) ≡ One piece → piece.from ≡ reached h → ⊥
  stops_after h less piece =
      elim (cases_eq h number) [
        | inl same ↦ rw (same, put_same so_far.places number number more.places refl, put_same so_far.end number number more.end refl) (more.stops piece)
        | inr ne ↦ rw (others h ne, put_other so_far.end number h more.end (λ e. ne (sym e))) (so_far.stops h (omega arith) piece)
      ]

  exact_after : (e : Edge) → Contains (so_far.all ++ added) e ↔ ((h : ℕ) × Contains (edges_among (facts store old.term old.ends h (moved h))) e)
  exact_after e = (
    (λ has.
        elim (Contains-append_cases so_far.all added e has) [
          | inl was ↦
              let (h, at) = (so_far.exact e).0 was in
              elim (cases_eq h number) [
                | inl same ↦
                    let (k, below, is) : Contains [] e =
                    subst (λ l. Contains (edges_among l) e) was_none
                    (subst (λ n. Contains (edges_among (facts store old.term old.ends n (so_far.places n))) e) same at) in
                    absurd (omega arith)
                | inr ne ↦ (h, subst (λ n. Contains (edges_among (facts store old.term old.ends h n)) e) (sym (others h ne)) at)
              ]
          | inr new ↦ (number, subst (λ n. Contains (edges_among (facts store old.term old.ends number n)) e) (sym here) new)
        ]),
    (λ (h, at).
        elim (cases_eq h number) [
          | inl same ↦
              Contains-append_right so_far.all added e
              (subst (λ n. Contains (edges_among (facts store old.term old.ends number n)) e) here
              (subst (λ n. Contains (edges_among (facts store old.term old.ends n (moved n))) e) same at))
          | inr ne ↦
              Contains-append_left so_far.all added e
              ((so_far.exact e).1 (h, subst (λ n. Contains (edges_among (facts store old.term old.ends h n)) e) (others h ne) at))
        ]),
  )

  inputs_after : (h : ℕ) → inputs_of new.inputs h ≡ inputs_among (facts store old.term old.ends h (moved h))
  inputs_after h =
      elim (cases_eq h number) [
        | inl same ↦
            rw (same, here)
            (more.inputs.own ∙ ap (λ l. l ++ inputs_among (facts store old.term old.ends number more.places)) (so_far.inputs number ∙ ap inputs_among was_none))
        | inr ne ↦ rw (others h ne) (more.inputs.others h ne ∙ so_far.inputs h)
      ]

  marked_after : (h : ℕ) → count_at new.marks h ≡ greatest (notes_among (facts store old.term old.ends h (moved h)))
  marked_after h =
      elim (cases_eq h number) [
        | inl same ↦
            (let none : count_at old.marks number ≡ 0 = so_far.marked number ∙ ap (λ l. greatest (notes_among l)) was_none in
            let most = greatest (notes_among (facts store old.term old.ends number more.places)) in
            rw (same, here) (let own : count_at new.marks number ≡ max (count_at old.marks number) most = more.notes.own in omega (arith, own, none)))
        | inr ne ↦ rw (others h ne) (more.notes.others h ne ∙ so_far.marked h)
      ]

  pub taken_more : AreTaken store old.term old.base old.ends new.edges new.inputs new.marks (number + 1)
  taken_more =
      record {
        places = moved;
        end = reached;
        goes = goes_after;
        stops = stops_after;
        unmoved = λ h le. others h (λ e. absurd (omega arith)) ∙ so_far.unmoved h (omega arith);
        all = so_far.all ++ added;
        exact = exact_after;
        start = more.edges.start ∙ so_far.start;
        enough =
            subst (λ (s : List ℕ). IsEnough (edges_of new.edges) (so_far.all ++ added) (count_at s)) so_far.start
            (more.edges.enough so_far.all (subst (λ (s : List ℕ). IsEnough (edges_of old.edges) so_far.all (count_at s)) (sym so_far.start) so_far.enough));
        no_edges = λ h le. more.edges.others h (λ e. absurd (omega arith)) ∙ so_far.no_edges h (omega arith);
        inputs = inputs_after;
        many = more.notes.many ∙ so_far.many;
        marked = marked_after;
      }

  -- what the next hart finds
  pub none_of : inputs_of old.inputs number ≡ []
  none_of = so_far.inputs number ∙ ap inputs_among was_none

module _ (store : StoreView) (rules : IsStore store) (leg : PlannedLeg) (number : ℕ) (many : number ≡ store.guest.harts)
    (taken : AreTaken store leg.term leg.base leg.ends leg.edges leg.inputs leg.marks number) where
  no_further : (h : ℕ) (piece : FragmentParts) → pieces_of store leg.term h (taken.places h) ≡ One piece → piece.from ≡ taken.end h → ⊥
  no_further h piece one =
      elim (cases_lt h number) [
        | inl less ↦ taken.stops h less piece one
        | inr over ↦
            let harts = harts_are store rules leg.term h (taken.places h) piece one in
            let hart = hart_is store rules leg.term h (taken.places h) piece one in
            let key : piece.key.hart < piece.guest.harts = (rules_of store rules leg.term h (taken.places h) piece one).key.hart in
            absurd (omega arith)
      ]

  abbrev avail : Avail store leg.term (count_at leg.base)
  avail = record { places = taken.places; end = taken.end; goes = taken.goes; stops = no_further }

  pub has_edges : HasEdges store leg
  has_edges =
      record {
        avail = avail;
        all = taken.all;
        exact = taken.exact;
        enough = taken.enough;
        same_order = same_order (edges_of leg.edges) taken.all (count_at leg.base) taken.enough;
      }

  pub has_inputs : HasInputs store leg
  has_inputs = record { avail = avail; exact = taken.inputs }

  pub has_marks : HasMarks store leg
  has_marks = record { many = taken.many; avail = avail; exact = taken.marked }
