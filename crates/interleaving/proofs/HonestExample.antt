-- The example of an honest log, and two schedules of it that end alike.
use Rattle.std.proofs.Common.{◌≡◌, inl, inr, ℕ, refl, sym, ap, subst, ◌∙◌}
use Rattle.interleaving.specs.Log.{IsHonest, IsComplete, counts_after}
use Rattle.interleaving.specs.Stored.{view}
use Rattle.interleaving.specs.Counters.{counters}
use Rattle.interleaving.specs.Examples.{counting, three, crossing, crossing_log, own_order, other_order, EndsAlike}
use Rattle.interleaving.specs.declared.counters.Act.TheVariants as act
use Rattle.interleaving.proofs.Put.{same_or_not}
use Rattle.interleaving.proofs.Runs.{counts_run}
use Rattle.interleaving.proofs.Beginnings.{ends_are_cuts}
use Rattle.interleaving.proofs.Recorder.{records_each_run}
use Rattle.interleaving.proofs.Decided.{begins_by, counts_after_absent}

honest : IsHonest counting crossing_log (view counters three) crossing
honest =
    records_each_run counting (act.Load 0) (view counters three) crossing (refl, (refl, (refl, (refl, (refl, tt)))))

-- each order takes the harts equally far
orders_agree : (hart : ℕ) →
    counts_after crossing_log.start other_order hart ≡ counts_after crossing_log.start own_order hart
orders_agree hart =
    elim (same_or_not 0 hart) [
      | inl is ↦ subst Agree is refl
      | inr not_0 ↦
          elim (same_or_not 1 hart) [
            | inl is ↦ subst Agree is refl
            | inr not_1 ↦
                elim (same_or_not 2 hart) [
                  | inl is ↦ subst Agree is refl
                  | inr not_2 ↦
                      counts_after_absent crossing_log.start other_order hart
                      (not_2, (not_0, (not_1, (not_1, (not_0, tt))))) ∙
                      sym (counts_after_absent crossing_log.start own_order hart
                      (not_0, (not_1, (not_0, (not_2, (not_1, tt))))))
                ]
          ]
    ]
  where
    Agree : ℕ → Type 0
    Agree h = counts_after crossing_log.start other_order h ≡ counts_after crossing_log.start own_order h

own_complete : IsComplete crossing_log.end crossing_log.start own_order
own_complete hart = sym (ap (λ n. n hart) (counts_run counting (view counters three) crossing honest.runs))

pub ends_alike : EndsAlike
ends_alike =
    record {
      honest = honest;
      is_cut = (ends_are_cuts counting crossing_log (view counters three) crossing honest).1;
      one =
          record {
            begins = begins_by crossing_log.edges crossing_log.end crossing_log.start own_order refl;
            complete = own_complete;
          };
      other =
          record {
            begins = begins_by crossing_log.edges crossing_log.end crossing_log.start other_order refl;
            complete = λ hart. orders_agree hart ∙ own_complete hart;
          };
      one_ends = refl;
      other_ends = refl;
    }
