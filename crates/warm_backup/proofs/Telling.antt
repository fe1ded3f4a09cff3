-- A store to which one piece came at a key where nothing was: what a leg had of it up to its ends, it still has.
use Rattle.std.proofs.Common.{◌≡◌, ◌≤◌, ◌++◌, inl, inr, ℕ, zero, suc, List, [], ◌∷◌, Contains, get_or, refl, sym, ap, subst, ◌∙◌, le_trans}
use Rattle.std.proofs.lemmas.Bool.{cases_lt}
use Rattle.ft_types.specs.Counts.{count_at}
use Rattle.fragment_codec.specs.declared.types.Record.{Record}
use Rattle.fragment_codec.specs.Rules.{FragmentParts, IsFragment}
use Rattle.log_join.specs.Cells.{One}
use Rattle.log_join.specs.Stores.{StoreView, IsStore}
use Rattle.closed_cut.specs.Chain.{LeadsTo}
use Rattle.closed_cut.specs.Position.{pieces_of, Avail, Goes}
use Rattle.closed_cut.proofs.Reach.{cut_short}
use Rattle.closed_cut.proofs.Unique.{one_end}
use Rattle.tracked_position.proofs.Growth.{HasOneMore, avail_of, goes_grown}
use Rattle.hart_replay.specs.declared.plans.PlannedLeg.{PlannedLeg}
use Rattle.hart_replay.specs.Facts.{EndsInside, HasEdges, HasInputs, HasMarks, below, edges_among, facts_of, inputs_among, notes_among, records_in, records_of}
use Rattle.hart_replay.specs.Plans.{BeginsAtBase, terms_of}
use Rattle.hart_replay.proofs.gathering.Pieces.{rules_of}
use Rattle.input_log.specs.Notes.{greatest}
use Rattle.warm_backup.specs.declared.growing.Cursor.{Cursor}
use Rattle.warm_backup.specs.declared.work.Work.{Work}
use Rattle.warm_backup.specs.machinery.Growing.{HasFacts, Walks, cursor_at}
use Rattle.warm_backup.specs.machinery.Working.{IsUpToDate, LeadUp}
use Rattle.warm_backup.proofs.Windows.{further, none_behind, same_end}

module _ (old new : StoreView) (rules : IsStore new) (piece : FragmentParts) (more : HasOneMore old new piece) where
  kept : (term hart place : ℕ) (f : FragmentParts) → pieces_of old term hart place ≡ One f → pieces_of new term hart place ≡ One f
  kept term hart place f one = more.kept (record { term = term; hart = hart; place = place }) f one

  goes_too : (term hart start n at : ℕ) → Goes (pieces_of old term hart) start n at → Goes (pieces_of new term hart) start n at
  goes_too term hart start n at goes = goes_grown (pieces_of old term hart) (pieces_of new term hart) (kept term hart) start n at goes

  -- what a walk went over has the same records
  same_records : (term hart start n at : ℕ) → Goes (pieces_of old term hart) start n at →
      records_of (pieces_of new term hart) n ≡ records_of (pieces_of old term hart) n
  same_records term hart start zero at goes = refl
  same_records term hart start (suc n) at (x, goes, one, is) =
      ap (λ (rs : List Record). rs ++ records_in (pieces_of new term hart n)) (same_records term hart start n x.from goes) ∙
      ap (λ (rs : List Record). records_of (pieces_of old term hart) n ++ rs) (ap records_in (kept term hart n x one) ∙ sym (ap records_in one))

  module _ (term : ℕ) (base : ℕ → ℕ) (was : Avail old term base) (is : Avail new term base) (hart : ℕ) where
    fits : (place : ℕ) (f : FragmentParts) → pieces_of new term hart place ≡ One f → IsFragment f
    fits = rules_of new rules term hart

    goes : Goes (pieces_of new term hart) (base hart) (was.places hart) (was.end hart)
    goes = goes_too term hart (base hart) (was.places hart) (was.end hart) (was.goes hart)

    no_fewer : was.places hart ≤ is.places hart
    no_fewer =
        elim (cases_lt (is.places hart) (was.places hart)) [
          | inl less ↦
              let (x, walk, one) = cut_short (pieces_of new term hart) (base hart) (was.places hart) (is.places hart) (was.end hart) goes less in
              absurd (is.stops hart x one (same_end (pieces_of new term hart) fits (base hart) (is.places hart) x.from (is.end hart) walk (is.goes hart)))
          | inr le ↦ le
        ]

    pub no_less : was.end hart ≤ is.end hart
    no_less =
        further (pieces_of new term hart) fits (base hart) (was.places hart) (was.end hart) (is.places hart) (is.end hart) goes (is.goes hart) no_fewer

    pub same_below : (end : ℕ) → end ≤ was.end hart →
        below end (records_of (pieces_of new term hart) (is.places hart)) ≡ below end (records_of (pieces_of old term hart) (was.places hart))
    same_below end inside =
        none_behind (pieces_of new term hart) fits (base hart) (was.places hart) (was.end hart) (is.places hart) (is.end hart) end goes (is.goes hart) no_fewer
        inside ∙ ap (below end) (same_records term hart (base hart) (was.places hart) (was.end hart) (was.goes hart))

  -- a leg whose ends are inside
  module _ (leg : PlannedLeg) (inside : (avail : Avail old leg.term (count_at leg.base)) (hart : ℕ) → count_at leg.ends hart ≤ avail.end hart) where
    abbrev now : Avail new leg.term (count_at leg.base)
    now = avail_of new rules leg.term (count_at leg.base)

    same_facts : (was : Avail old leg.term (count_at leg.base)) (hart : ℕ) → facts_of new leg now hart ≡ facts_of old leg was hart
    same_facts was hart = same_below leg.term (count_at leg.base) was now hart (count_at leg.ends hart) (inside was hart)

    pub edges_too : HasEdges old leg → HasEdges new leg
    edges_too was =
        record {
          avail = now;
          all = was.all;
          exact =
              λ e. (
                λ has.
                    let (hart, at) = (was.exact e).0 has in
                    (hart, subst (λ (rs : List Record). Contains (edges_among rs) e) (sym (same_facts was.avail hart)) at),
                λ (hart, at). (was.exact e).1 (hart, subst (λ (rs : List Record). Contains (edges_among rs) e) (same_facts was.avail hart) at),
              );
          enough = was.enough;
          same_order = was.same_order;
        }

    pub inputs_too : HasInputs old leg → HasInputs new leg
    inputs_too was =
        record { avail = now; exact = λ hart. was.exact hart ∙ ap inputs_among (sym (same_facts was.avail hart)) }

    pub marks_too : HasMarks old leg → HasMarks new leg
    marks_too was =
        record {
          many = was.many;
          avail = now;
          exact = λ hart. was.exact hart ∙ ap (λ (rs : List Record). greatest (notes_among rs)) (sym (same_facts was.avail hart));
        }

    -- they are inside of the new store too
    pub inside_too : Avail old leg.term (count_at leg.base) → (avail : Avail new leg.term (count_at leg.base)) (hart : ℕ) → count_at leg.ends hart ≤ avail.end hart
    inside_too was avail hart = le_trans (inside was hart) (no_less leg.term (count_at leg.base) was avail hart)

  pub has_facts_too : (leg : PlannedLeg) → HasFacts old leg → HasFacts new leg
  has_facts_too leg was =
      record {
        start = was.start;
        harts = was.harts ∙ sym (ap (λ g. g.harts) more.guest);
        many_ends = was.many_ends;
        inside = inside_too leg was.inside was.edges.avail;
        edges = edges_too leg was.inside was.edges;
        inputs = inputs_too leg was.inside was.inputs;
        marks = marks_too leg was.inside was.marks;
      }

  walks_too : (leg : PlannedLeg) (hart : ℕ) (cursor : Cursor) → Walks old leg hart cursor → Walks new leg hart cursor
  walks_too leg hart cursor was =
      record { goes = goes_too leg.term hart (count_at leg.base hart) cursor.place cursor.end was.goes; within = was.within }

  pub up_to_date_too : (w : Work) → IsUpToDate old w → IsUpToDate new w
  up_to_date_too w was =
      record {
        facts = has_facts_too w.leg was.facts;
        walks = λ hart less. walks_too w.leg hart (cursor_at w.cursors hart) (was.walks hart less);
        log = was.log;
        rows = was.rows;
        done = was.done;
        obeyed = was.obeyed;
      }

  -- ---- the legs before it

  leads_too : (terms : List ℕ) (term top : ℕ) → LeadsTo old term terms top → LeadsTo new term terms top
  leads_too [] term top is = is
  leads_too (next ∷ terms) term top (parent, rest) = (
    record { opening = parent.opening; opens = more.openings next ∙ parent.opens; is = parent.is },
    leads_too terms next top rest,
  )

  base_too : (leg : PlannedLeg) → BeginsAtBase old leg → BeginsAtBase new leg
  base_too leg was = record { opening = was.opening; opens = more.openings leg.term ∙ was.opens; base = was.base }

  inside_of : (leg : PlannedLeg) → EndsInside old leg → (avail : Avail old leg.term (count_at leg.base)) (hart : ℕ) → count_at leg.ends hart ≤ avail.end hart
  inside_of leg cuts avail hart =
      subst (λ (n : ℕ). count_at leg.ends hart ≤ n) (one_end old leg.term (count_at leg.base) cuts.avail avail hart) (cuts.within hart)

  ends_too : (leg : PlannedLeg) → EndsInside old leg → EndsInside new leg
  ends_too leg cuts =
      record {
        avail = avail_of new rules leg.term (count_at leg.base);
        within =
            inside_too leg (inside_of leg cuts) cuts.avail (avail_of new rules leg.term (count_at leg.base));
        cut = cuts.cut;
      }

  pub led_up_too : (front : List PlannedLeg) (w : Work) → LeadUp old front w → LeadUp new front w
  led_up_too front w was =
      record {
        terms = leads_too (terms_of (front ++ w.leg ∷ [])) 0 w.leg.term was.terms;
        bases = λ k d less. base_too (get_or (front ++ w.leg ∷ []) k d) (was.bases k d less);
        ends = was.ends;
        cuts = λ k d less. ends_too (get_or front k d) (was.cuts k d less);
        edges =
            λ k d less. let leg = get_or front k d in edges_too leg (inside_of leg (was.cuts k d less)) (was.edges k d less);
        inputs =
            λ k d less. let leg = get_or front k d in inputs_too leg (inside_of leg (was.cuts k d less)) (was.inputs k d less);
        marks =
            λ k d less. let leg = get_or front k d in marks_too leg (inside_of leg (was.cuts k d less)) (was.marks k d less);
      }
