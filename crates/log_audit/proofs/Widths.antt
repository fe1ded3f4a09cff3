-- Each entry is of HART_ROW counts.
use Rattle.std.proofs.Common.{◌≡◌, inl, inr, ℕ, ◌<◌, max, List, [], ◌∷◌, ◌++◌, length, slice_index}
use Rattle.std.proofs.Common.{sym, ap, subst, ◌∙◌, Contains, length-set}
use Rattle.std.proofs.lemmas.List.{length-replicate}
use Rattle.std.proofs.lemmas.List.Elements.{Contains-append_cases}
use Rattle.ft_types.specs.Counts.{greater}
use Rattle.ft_types.specs.declared.names.TheConstants.{HART_ROW}
use Rattle.ft_types.proofs.Zips.{length-zipped}
use Rattle.edge_log.specs.declared.Edge.{Edge}
use Rattle.log_audit.specs.declared.befores.Before.{Before as Entry}
use Rattle.log_audit.specs.machinery.Befores.{row_of, IsLatest, IsBrought, Nothing, More, AreBrought, NoneYet, Next, Brings}
use Rattle.log_audit.proofs.Latest.{in_one, latest_is, row_at, some_or_none}

-- each entry is of HART_ROW counts
abbrev pub AreWide : List (List Entry) → Type 0
AreWide rows = (h : ℕ) (b : Entry) → Contains (row_of rows h) b → length b.steps ≡ HART_ROW

module _ (rows : List (List Entry)) (wide : AreWide rows) where
  pub latest_many : (hart count : ℕ) (steps : List ℕ) → IsLatest (row_of rows hart) count steps → length steps ≡ HART_ROW
  latest_many hart count steps latest = elim (latest_is (row_of rows hart) count steps latest) [
    | inl none ↦ ap length none ∙ length-replicate {A = ℕ} HART_ROW 0
    | inr entry ↦ (let (b, there, early, is) = entry in ap length is ∙ wide hart b there)
  ]

  one_many : (steps : List ℕ) (e : Edge) (all : List ℕ) → length steps ≡ HART_ROW → IsBrought rows steps e all → length all ≡ HART_ROW
  one_many steps e all many (Nothing none same) = ap length same ∙ many
  one_many steps e all many (More below some latest is) =
      ap length is ∙ length-set (greater steps below) e.other (max (slice_index (greater steps below) e.other) e.after)
      ∙ length-zipped max steps below (many ∙ sym (latest_many e.other _ below latest)) ∙ many

  all_many : (own : List ℕ) → length own ≡ HART_ROW → (edges : List Edge) (steps : List ℕ) → AreBrought rows own edges steps → length steps ≡ HART_ROW
  all_many own many edges steps NoneYet = many
  all_many own many edges steps (Next {edges = before} {steps = sofar} e all brought one) =
      one_many sofar e all (all_many own many before sofar brought) one

  -- what a hart's edges bring is, and the rows with it are as before
  pub brought_many : (hart count : ℕ) (edges : List Edge) (steps : List ℕ) (new : List (List Entry)) → hart < length rows →
      Brings rows hart count edges steps new → (length steps ≡ HART_ROW) × AreWide new
  brought_many hart count edges steps new within brings = (many, new_wide)
    where
      many : length steps ≡ HART_ROW
      many = all_many brings.own (latest_many hart count brings.own brings.latest) edges steps brings.brought

      in_row : (b : Entry) → Contains (row_of rows hart ++ record { since = count; steps = steps } ∷ []) b → length b.steps ≡ HART_ROW
      in_row b there = elim (Contains-append_cases (row_of rows hart) (record { since = count; steps = steps } ∷ []) b there) [
        | inl old ↦ wide hart b old
        | inr one ↦ ap (λ (x : Entry). length x.steps) (in_one b (record { since = count; steps = steps }) one) ∙ many
      ]

      new_wide : AreWide new
      new_wide h b there = elim (some_or_none edges) [
        | inl none ↦ wide h b (subst (λ (r : List (List Entry)). Contains (row_of r h) b) (brings.none none) there)
        | inr some ↦
            let there_too = subst (λ (r : List (List Entry)). Contains (row_of r h) b) (brings.some some) there in
            elim (row_at rows hart h (row_of rows hart ++ record { since = count; steps = steps } ∷ []) within) [
              | inl same ↦ in_row b (subst (λ (r : List Entry). Contains r b) same.1 there_too)
              | inr other ↦ wide h b (subst (λ (r : List Entry). Contains r b) other.1 there_too)
            ]
      ]
