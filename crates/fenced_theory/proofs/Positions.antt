-- A store has its own position, and what it covers of a term is a cut of the term's book.
use Rattle.std.proofs.Common.{◌≡◌, ℕ, ◌≤◌, Option, Some, None, sym, ap, subst, ◌∙◌, arith}
use Rattle.log_join.specs.Families.{Past, HonestStore}
use Rattle.ft_types.specs.Counts.{count_at}
use Rattle.log_join.specs.Cells.{One}
use Rattle.log_join.specs.Stores.{StoreView}
use Rattle.closed_cut.specs.Position.{IsReached, base_of, Stops, Last, Short, On, Walked, IsPosition, NoTop, Top}
use Rattle.ft_types.specs.declared.position.Position.{Position}
use Rattle.fenced_theory.specs.Recorders.{Recorder, IsBoot, IsCutOf, CanLive}
use Rattle.fenced_theory.specs.Families.{IsFamily}
use Rattle.fenced_theory.specs.Worlds.{BeginsAt, AtBoot, AtCut}
use Rattle.fenced_theory.proofs.Growing.{an_opening, Leads, There, Step, Covered, Backed}
use Rattle.fenced_theory.proofs.Walks.{reached_covered}

module _ {Book Fact : Type 0} (recorder : Recorder Book Fact) (terms : ℕ → Option (Past Book)) (family : IsFamily recorder terms) (s : StoreView)
    (honest : HonestStore terms s) where
  stops_lead : (top term : ℕ) (cut : ℕ → ℕ) {now : ℕ} → Stops s top term cut now → Leads recorder terms s term cut now
  stops_lead top term cut (Last {now = now} o one is_top is r) =
      let (p, at, e) = an_opening terms s now o honest one in
      There is (reached_covered recorder terms family s now p None cut honest at (one ∙ sym (ap One e))
      (subst (λ o. IsReached s now (base_of o) None cut) (sym e) r))
  stops_lead top term cut (Short {now = now} o n next one two parent chain is r ne) =
      let (p, at, e) = an_opening terms s now o honest one in
      There is (reached_covered recorder terms family s now p (Some (base_of n)) cut honest at (one ∙ sym (ap One e))
      (subst (λ o. IsReached s now (base_of o) (Some (base_of n)) cut) (sym e) r))
  stops_lead top term cut (On {now = now} o n next all one two parent chain r eq stops) =
      let (p, at, e) = an_opening terms s now o honest one in
      let (q, is_q, f) = an_opening terms s next n honest two in
      let c : Covered recorder terms s now all =
      reached_covered recorder terms family s now p (Some (base_of n)) all honest at (one ∙ sym (ap One e))
      (subst (λ o. IsReached s now (base_of o) (Some (base_of n)) all) (sym e) r) in
      let base : all ≡ (base_of q.opening) = (λ i hart. eq hart i) ∙ sym (ap (λ o. (base_of o)) f) in
      Step next q is_q (ap (λ o. o.parent) f ∙ parent) (two ∙ sym (ap One f)) (subst (λ cut. Covered recorder terms s now cut) base c)
      (stops_lead top term cut stops)

  -- a store has its own position
  pub walked_backed : (p : Position) → Walked s p → Backed recorder terms s p.term (count_at p.counts)
  walked_backed p k =
      let (q, is, e) = an_opening terms s k.root k.opening honest k.opens in
      record {
        root = k.root;
        past = q;
        is = is;
        first = ap (λ o. o.parent) e ∙ k.first;
        opens = k.opens ∙ sym (ap One e);
        leads = stops_lead p.top p.term (count_at p.counts) k.stops;
      }

  pub leads_covered : (term : ℕ) (cut : ℕ → ℕ) {now : ℕ} → Leads recorder terms s term cut now → Covered recorder terms s term cut
  leads_covered term cut (There e c) = subst (λ n. Covered recorder terms s n cut) e c
  leads_covered term cut (Step next p is parent opens c rest) = leads_covered term cut rest

  pub walked_covered : (p : Position) → Walked s p → Covered recorder terms s p.term (count_at p.counts)
  walked_covered p k = leads_covered p.term (count_at p.counts) (stops_lead p.top p.term (count_at p.counts) k.stops)

  -- what a store covers of a term is a cut of its book
  pub covered_cut : (term : ℕ) (cut : ℕ → ℕ) → (c : Covered recorder terms s term cut) → IsCutOf recorder c.past.told cut
  covered_cut term cut c =
      record {
        from_start =
            λ hart.
            let a : recorder.start c.past.told hart ≡ (base_of c.past.opening) hart = (family.honest term c.past c.is).start hart in
            let b : (base_of c.past.opening) hart ≤ cut hart = c.above hart in
            omega arith;
        to_counts = c.settled;
        closed = c.closed;
      }

  -- where books can live at cuts, one can begin at a position
  pub can_begin : (boot : Book) → IsBoot recorder boot → CanLive recorder → (p : Position) → IsPosition s p → (b : Book) × BeginsAt recorder terms p b
  can_begin boot boots lives p (NoTop none at_boot zeros t) = (boot, AtBoot (ap terms at_boot ∙ family.none) boots)
  can_begin boot boots lives p (Top walked) =
      let c = walked_covered p walked in
      let (b, is) = lives c.past.told (count_at p.counts) (covered_cut p.term (count_at p.counts) c) in
      (b, AtCut c.past c.is is)
