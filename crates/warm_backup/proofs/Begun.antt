-- What a leg has below some counts, as it begins another leg.
use Rattle.std.proofs.Common.{◌≡◌, ◌↔◌, inl, inr, ℕ, List, [], length, sym, subst, arith}
use Rattle.std.proofs.lemmas.Bool.{cases_lt}
use Rattle.std.proofs.lemmas.List.{get_or_past}
use Rattle.ft_types.specs.Counts.{count_at}
use Rattle.ft_types.specs.declared.names.TheConstants.{HART_ROW}
use Rattle.edge_log.specs.declared.Edge.{Edge}
use Rattle.edge_log.specs.EdgeLog.{row_of}
use Rattle.edge_log.specs.Rows.{SayOn}
use Rattle.input_log.specs.declared.Input.{Input}
use Rattle.input_log.specs.Inputs.{inputs_of, HearsMore}
use Rattle.page_book.proofs.Later.{say_same}
use Rattle.hart_replay.specs.declared.plans.PlannedLeg.{PlannedLeg}
use Rattle.warm_backup.specs.machinery.Cutting.{BeginsBelow, RowsBegin, edges_below}
use Rattle.warm_backup.proofs.Cuts.{row_below, row_past}
use Rattle.warm_backup.proofs.Firsts.{says_from_same, same_from_says}

-- row by row, or as a whole
module _ (leg later : PlannedLeg) (ends : List ℕ) (many : length later.edges.rows ≡ HART_ROW) where
  says_on : RowsBegin leg later ends → (hart : ℕ) → SayOn (row_of (edges_below ends leg.edges) hart) (count_at ends hart) (row_of later.edges hart)
  says_on rows hart =
      elim (cases_lt hart HART_ROW) [
        | inl less ↦
            subst (λ (row : List Edge). SayOn row (count_at ends hart) (row_of later.edges hart))
            (sym (row_below (λ (e : Edge). e.at) ends leg.edges.rows hart less))
            (says_from_same (count_at ends hart) (row_of leg.edges hart) (row_of later.edges hart) (rows.edges hart less))
        | inr over ↦
            rw (row_past (λ (e : Edge). e.at) ends leg.edges.rows hart over, get_or_past later.edges.rows hart [] (omega (arith, over, many)))
            (say_same [] (count_at ends hart))
      ]

  pub begins_by_rows : later.edges.start ≡ leg.edges.start → RowsBegin leg later ends ↔ BeginsBelow leg later ends
  begins_by_rows start = (
    λ rows.
        record {
          no_earlier = rows.no_earlier;
          edges = record { start = start; rows = says_on rows };
          inputs =
              λ hart less.
              subst (λ (row : List (ℕ × Input)). HearsMore row (count_at ends hart) (inputs_of later.inputs hart)) (sym (row_below (λ (x : ℕ × Input). x.0) ends leg.inputs hart less))
              (rows.inputs hart less);
        },
    λ begins.
        record {
          no_earlier = begins.no_earlier;
          edges =
              λ hart less.
              same_from_says (count_at ends hart) (row_of leg.edges hart) (row_of later.edges hart)
              (subst (λ (row : List Edge). SayOn row (count_at ends hart) (row_of later.edges hart)) (row_below (λ (e : Edge). e.at) ends leg.edges.rows hart less) (begins.edges.rows hart));
          inputs =
              λ hart less.
              subst (λ (row : List (ℕ × Input)). HearsMore row (count_at ends hart) (inputs_of later.inputs hart)) (row_below (λ (x : ℕ × Input). x.0) ends leg.inputs hart less)
              (begins.inputs hart less);
        },
  )
