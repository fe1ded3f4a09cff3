-- How a hart's end is raised, piece after piece.
use Rattle.std.proofs.Common.{◌≡◌, ◌+◌, ◌<◌, ◌≤◌, ◌++◌, inl, inr, ℕ, zero, suc, List, [], Contains, max, refl, subst, ◌∙◌, arith}
use Rattle.std.proofs.lemmas.List.Elements.{All-contains, All-from_recursion, Contains-append_cases}
use Rattle.ft_types.specs.Counts.{count_at}
use Rattle.interleaving.specs.Log.{Edge}
use Rattle.fragment_codec.specs.declared.types.Record.{Record}
use Rattle.fragment_codec.specs.declared.types.Record.TheVariants.{Edge as EdgeRecord}
use Rattle.fragment_codec.specs.Rules.{FragmentParts, IsFragment, IsRecordOf, count_of}
use Rattle.log_join.specs.Cells.{Cell, One}
use Rattle.log_join.specs.Stores.{StoreView, IsStore}
use Rattle.closed_cut.specs.Position.{pieces_of, Goes, Avail}
use Rattle.closed_cut.proofs.Reach.{cut_short}
use Rattle.closed_cut.proofs.Walking.{goes_on}
use Rattle.book_modes.specs.declared.mode.Leg.{Leg}
use Rattle.hart_replay.specs.declared.plans.PlannedLeg.{PlannedLeg}
use Rattle.hart_replay.specs.Facts.{edges_among}
use Rattle.hart_replay.specs.machinery.Taking.{between, is_between, EdgesEndBy, InputsEndBelow}
use Rattle.hart_replay.proofs.gathering.Pieces.{rules_of}
use Rattle.hart_replay.proofs.gathering.Records.{edges_among-append, from_there}
use Rattle.hart_replay.proofs.gathering.Ends.{edge_record, in_filter}
use Rattle.warm_backup.specs.machinery.Growing.{TakesFacts, TakesWork, TakesUpTo, GrowsFrom}
use Rattle.warm_backup.proofs.Windows.{HasAdded, added_more, all_added, longer, nothing_added, same_end}
use Rattle.warm_backup.proofs.Steps.{grows_nothing, grows_on, takes_more_facts, takes_more_work, takes_no_facts, takes_no_work}

-- the edges of a piece between two counts are its hart's, of steps from the first one on
late_edges : (f : FragmentParts) → IsFragment f → (from end : ℕ) (e : Edge) → Contains (edges_among (between from end f.records)) e →
    (e.hart ≡ f.key.hart) × (from ≤ e.step)
late_edges f rules from end e has =
    let (x, there, is) = edge_record (between from end f.records) e has in
    let (among, tells) = in_filter (λ r. is_between from end (count_of r)) f.records (EdgeRecord x) there in
    let own =
    All-contains (IsRecordOf f.guest.harts f.key.hart f.from f.to) f.records (EdgeRecord x)
    (All-from_recursion (IsRecordOf f.guest.harts f.key.hart f.from f.to) f.records rules.records.each) among in
    subst (λ (y : Edge). (y.hart ≡ f.key.hart) × (from ≤ y.step)) is (own.0.0, (from_there from end x.at tells).0)

-- what was added, once the walk has gone over so many places, as far as a count
pub record SoFar (pieces : ℕ → Cell FragmentParts) (hart from end : ℕ) (now : ℕ → ℕ) (was : PlannedLeg) (before : Leg) (n at : ℕ) (leg : PlannedLeg) (rest : Leg) :
    Type 0 where
  pub same_ends : leg.ends ≡ was.ends
  pub rest_ends : rest.ends ≡ before.ends
  pub goes : Goes pieces (count_at was.base hart) n at
  pub added : List Record
  pub has_added : HasAdded pieces from end n at added
  pub late : (e : Edge) → Contains (edges_among added) e → (e.hart ≡ hart) × (from ≤ e.step)
  pub taken : TakesFacts hart was added leg
  pub work : TakesWork hart now before added rest
  pub edges_end : EdgesEndBy leg.edges hart (max from at)
  pub inputs_end : InputsEndBelow leg.inputs hart (max from at)
  pub rest_edges_end : EdgesEndBy rest.edges hart (max from at)
  pub rest_inputs_end : InputsEndBelow rest.inputs hart (max from at)
  pub grows : GrowsFrom hart from was leg

module _ (pieces : ℕ → Cell FragmentParts) (fits : (place : ℕ) (f : FragmentParts) → pieces place ≡ One f → IsFragment f) (hart from end : ℕ) (now : ℕ → ℕ)
    (was : PlannedLeg) (before : Leg) (up : from ≤ end) where
  -- at first nothing
  pub begins_so_far : (n at : ℕ) → Goes pieces (count_at was.base hart) n at → at ≤ from → EdgesEndBy was.edges hart from → InputsEndBelow was.inputs hart from →
      EdgesEndBy before.edges hart from → InputsEndBelow before.inputs hart from → SoFar pieces hart from end now was before n at was before
  begins_so_far n at goes le edges inputs rest_edges rest_inputs =
      let most : max from at ≡ from = omega (arith, le) in
      record {
        same_ends = refl;
        rest_ends = refl;
        goes = goes;
        added = [];
        has_added = nothing_added pieces fits (count_at was.base hart) from end n at goes le up;
        late = λ e (k, less, is). absurd (omega (arith, less));
        taken = takes_no_facts hart was;
        work = takes_no_work hart now before;
        edges_end = rw most edges;
        inputs_end = rw most inputs;
        rest_edges_end = rw most rest_edges;
        rest_inputs_end = rw most rest_inputs;
        grows = grows_nothing hart from was;
      }

  -- one more piece
  module _ (n at : ℕ) (leg next : PlannedLeg) (rest then : Leg) (so_far : SoFar pieces hart from end now was before n at leg rest) (f : FragmentParts)
      (one : pieces n ≡ One f) (begins : f.from ≡ at) (own : f.key.hart ≡ hart) (taken : TakesFacts hart leg (between from end f.records) next)
      (work : TakesWork hart now rest (between from end f.records) then) (ends : next.ends ≡ leg.ends) (rest_ends : then.ends ≡ rest.ends)
      (grows : GrowsFrom hart (max from f.from) leg next) (edges_end : EdgesEndBy next.edges hart (max from f.to))
      (inputs_end : InputsEndBelow next.inputs hart (max from f.to)) (rest_edges_end : EdgesEndBy then.edges hart (max from f.to))
      (rest_inputs_end : InputsEndBelow then.inputs hart (max from f.to)) where
    late_more : (e : Edge) → Contains (edges_among (so_far.added ++ between from end f.records)) e → (e.hart ≡ hart) × (from ≤ e.step)
    late_more e has =
        elim
        (Contains-append_cases (edges_among so_far.added) (edges_among (between from end f.records)) e
        (subst (λ (es : List Edge). Contains es e) (edges_among-append so_far.added (between from end f.records)) has)) [
          | inl before ↦ so_far.late e before
          | inr more ↦ let (at_hart, up) = late_edges f (fits n f one) from end e more in (at_hart ∙ own, up)
        ]

    pub more_so_far : SoFar pieces hart from end now was before (n + 1) f.to next then
    more_so_far =
        record {
          same_ends = ends ∙ so_far.same_ends;
          rest_ends = rest_ends ∙ so_far.rest_ends;
          goes = goes_on pieces (count_at was.base hart) n at f so_far.goes one begins;
          added = so_far.added ++ between from end f.records;
          has_added = added_more pieces fits (count_at was.base hart) from end n at so_far.added so_far.has_added f one begins up;
          late = late_more;
          taken = takes_more_facts hart was leg next so_far.added (between from end f.records) so_far.taken taken;
          work = takes_more_work hart now before rest then so_far.added (between from end f.records) so_far.work work;
          edges_end = edges_end;
          inputs_end = inputs_end;
          rest_edges_end = rest_edges_end;
          rest_inputs_end = rest_inputs_end;
          grows = grows_on hart from (max from f.from) was leg next (omega arith) so_far.grows grows;
        }

  -- the same, as a body tells of it: of the piece's hart, from a count that it read
  module _ (n at : ℕ) (leg next : PlannedLeg) (rest then : Leg) (so_far : SoFar pieces hart from end now was before n at leg rest) (f : FragmentParts)
      (one : pieces n ≡ One f) (begins : f.from ≡ at) (h k : ℕ) (of_piece : f.key.hart ≡ h) (own : h ≡ hart) (is : k ≡ from)
      (taken : TakesFacts h leg (between k end f.records) next) (work : TakesWork h now rest (between k end f.records) then) (ends : next.ends ≡ leg.ends)
      (rest_ends : then.ends ≡ rest.ends) (grows : GrowsFrom h (max k f.from) leg next) (edges_end : EdgesEndBy next.edges h (max k f.to))
      (inputs_end : InputsEndBelow next.inputs h (max k f.to)) (rest_edges_end : EdgesEndBy then.edges h (max k f.to))
      (rest_inputs_end : InputsEndBelow then.inputs h (max k f.to)) where
    pub next_so_far : SoFar pieces hart from end now was before (n + 1) f.to next then
    next_so_far =
        more_so_far n at leg next rest then so_far f one begins (of_piece ∙ own) (rw (own, is) at taken) (rw (own, is) at work) ends rest_ends
        (rw (own, is) at grows) (rw (own, is) at edges_end) (rw (own, is) at inputs_end) (rw (own, is) at rest_edges_end) (rw (own, is) at rest_inputs_end)

  -- what a piece added, be it refused
  pub grows_next : (n at : ℕ) (leg next : PlannedLeg) (rest : Leg) → SoFar pieces hart from end now was before n at leg rest → (h k from_there : ℕ) → h ≡ hart →
      k ≡ from → GrowsFrom h (max k from_there) leg next → GrowsFrom hart from was next
  grows_next n at leg next rest so_far h k from_there own is grows =
      grows_on hart from (max from from_there) was leg next (omega arith) so_far.grows (rw (own, is) at grows)

-- ---- where the walk has come to the end, or past it

module _ (store : StoreView) (rules : IsStore store) (hart end : ℕ) (now : ℕ → ℕ) (was : PlannedLeg) (before : Leg) (up : count_at was.ends hart ≤ end) where
  abbrev from : ℕ
  from = count_at was.ends hart

  abbrev pieces : ℕ → Cell FragmentParts
  pieces = pieces_of store was.term hart

  pub fits : (place : ℕ) (f : FragmentParts) → pieces place ≡ One f → IsFragment f
  fits place f one = rules_of store rules was.term hart place f one

  module _ (n at : ℕ) (leg : PlannedLeg) (rest : Leg) (so_far : SoFar pieces hart from end now was before n at leg rest) (upto : end ≤ at)
      (many : (places far : ℕ) → Goes pieces (count_at was.base hart) places far → end ≤ far → n ≤ places) where
    pub takes_up_to : TakesUpTo store hart end now was before leg rest
    takes_up_to =
        record {
          taken = record { added = so_far.added; late = so_far.late; leg = so_far.taken; rest = so_far.work };
          exact =
              λ places far walk reach.
              all_added pieces fits (count_at was.base hart) from end n at so_far.added so_far.has_added so_far.goes up upto places far walk reach
              (many places far walk reach);
        }

  -- a walk past the end goes over the piece that comes to it, too
  pub covers : (n at : ℕ) → Goes pieces (count_at was.base hart) n at → at < end → (places far : ℕ) → Goes pieces (count_at was.base hart) places far →
      end ≤ far → n + 1 ≤ places
  covers n at goes less places far walk reach =
      let more = longer pieces fits (count_at was.base hart) n at places far goes walk (omega (arith, less, reach)) in omega (arith, more)

  -- and where a walk ends there, it goes over as many
  pub covers_all : (n at : ℕ) → Goes pieces (count_at was.base hart) n at → at ≡ end → (places far : ℕ) → Goes pieces (count_at was.base hart) places far →
      end ≤ far → n ≤ places
  covers_all zero at goes is places far walk reach = omega arith
  covers_all (suc m) at (x, goes, one, to) is places far walk reach =
      let some = (fits m x one).some in
      let more = longer pieces fits (count_at was.base hart) m x.from places far goes walk (omega (arith, some, to, is, reach)) in omega (arith, more)

  -- there is a piece where the walk stands below the end
  pub has_next : (avail : Avail store was.term (count_at was.base)) → end ≤ avail.end hart → (n at : ℕ) → Goes pieces (count_at was.base hart) n at → at < end →
      (f : FragmentParts) × (pieces n ≡ One f) × (f.from ≡ at)
  has_next avail inside n at goes less =
      let more = longer pieces fits (count_at was.base hart) n at (avail.places hart) (avail.end hart) goes (avail.goes hart) (omega (arith, less, inside)) in
      let (f, before, one) = cut_short pieces (count_at was.base hart) (avail.places hart) n (avail.end hart) (avail.goes hart) more in
      (f, one, same_end pieces fits (count_at was.base hart) n f.from at before goes)
