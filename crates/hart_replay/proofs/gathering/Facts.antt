-- The facts of a leg are those of the log that its pieces tell of.
use Rattle.std.proofs.Common.{◌≡◌, ◌≢◌, inl, inr, ℕ, zero, suc, ◌<◌, ◌≤◌, Bool, true, false, cond, List, [], ◌∷◌, ◌++◌, Contains, All, refl, sym, ap, subst}
use Rattle.std.proofs.Common.{◌∙◌, arith, nat_lt, lt-ltb, le-ltb, ne_eqb, append-nil}
use Rattle.std.specs.List.{filter}
use Rattle.std.proofs.lemmas.Bool.{cases_lt}
use Rattle.std.proofs.lemmas.List.Elements.{Contains-append_left, Contains-append_right, All-from_recursion, All-head, All-tail, All-weaker}
use Rattle.interleaving.specs.Log.{Edge, Log}
use Rattle.interleaving.proofs.Cuts.{here, here_or_later}
use Rattle.input_log.specs.declared.Input.{Input}
use Rattle.input_log.specs.Inputs.{inputs_at}
use Rattle.fragment_codec.specs.declared.types.Record.{Record}
use Rattle.fragment_codec.specs.declared.types.Record.TheVariants.{Edge as EdgeRecord, Input as InputRecord, Note as NoteRecord}
use Rattle.fragment_codec.specs.Rules.{FragmentParts, IsFragment, IsRecordOf, count_of}
use Rattle.log_join.specs.Cells.{Cell, One}
use Rattle.closed_cut.specs.Position.{edges_of as piece_edges, Goes}
use Rattle.closed_cut.proofs.Walking.{one_same}
use Rattle.closed_cut.proofs.Reach.{cut_short, goes_above}
use Rattle.hart_replay.specs.Facts.{records_in, records_of, below, edges_among, inputs_among}
use Rattle.hart_replay.specs.Histories.{TellsOf}
use Rattle.hart_replay.proofs.gathering.Records.{inputs_among-append}
use Rattle.hart_replay.proofs.gathering.Inputs.{at-append}
use Rattle.hart_replay.proofs.gathering.Ends.{edge_record, record_edge, fact_edge}

-- ---- lists of records

pub to_filter : (p : Record → Bool) (rs : List Record) (r : Record) → Contains rs r → p r ≡ true → Contains (filter p rs) r
to_filter p [] r (k, less, is) tells = absurd (omega arith)
to_filter p (x ∷ rs) r has tells = go (p x) refl (to_filter p rs r)
  where
    go : (b : Bool) → p x ≡ b → (Contains rs r → p r ≡ true → Contains (filter p rs) r) → Contains (cond b (x ∷ filter p rs) (filter p rs)) r
    go true is among =
        elim (here_or_later x rs r has) [
          | inl same ↦ subst (Contains (x ∷ filter p rs)) same (here x (filter p rs))
          | inr later ↦ Contains-append_right (x ∷ []) (filter p rs) r (among later tells)
        ]
    go false is among =
        elim (here_or_later x rs r has) [
          | inl same ↦ let e : true ≡ false = sym tells ∙ (ap p (sym same) ∙ is) in cc
          | inr later ↦ among later tells
        ]

pub to_records : (pieces : ℕ → Cell FragmentParts) (n place : ℕ) (f : FragmentParts) (r : Record) → place < n → pieces place ≡ One f → Contains f.records r →
    Contains (records_of pieces n) r
to_records pieces zero place f r less one has = absurd (omega arith)
to_records pieces (suc n) place f r less one has =
    elim (cases_lt place n) [
      | inl before ↦ Contains-append_left (records_of pieces n) (records_in (pieces n)) r (to_records pieces n place f r before one has)
      | inr last ↦
          let same : place ≡ n = omega arith in
          Contains-append_right (records_of pieces n) (records_in (pieces n)) r
          (subst (λ c. Contains (records_in c) r) (sym one ∙ ap pieces same) has)
    ]

-- ---- inputs at a count

-- records elsewhere have none there
none_there : (rs : List Record) (n : ℕ) → All (λ r. count_of r ≢ n) rs → inputs_at (inputs_among rs) n ≡ []
none_there [] n all = refl
none_there (EdgeRecord e ∷ rs) n all = none_there rs n (All-tail (λ r. count_of r ≢ n) (EdgeRecord e) rs all)
none_there (InputRecord at input ∷ rs) n all =
    rw (ne_eqb at n (All-head (λ r. count_of r ≢ n) (InputRecord at input) rs all))
    (none_there rs n (All-tail (λ r. count_of r ≢ n) (InputRecord at input) rs all))
none_there (NoteRecord at number ∷ rs) n all = none_there rs n (All-tail (λ r. count_of r ≢ n) (NoteRecord at number) rs all)

-- those below an end have them all
below_there : (end : ℕ) (rs : List Record) (n : ℕ) → n < end → inputs_at (inputs_among (below end rs)) n ≡ inputs_at (inputs_among rs) n
below_there end [] n less = refl
below_there end (EdgeRecord e ∷ rs) n less =
    elim (cases_lt e.at end) [
      | inl inside ↦ rw (lt-ltb e.at end inside) (below_there end rs n less)
      | inr over ↦ rw (le-ltb e.at end over) (below_there end rs n less)
    ]
below_there end (NoteRecord at number ∷ rs) n less =
    elim (cases_lt at end) [
      | inl inside ↦ rw (lt-ltb at end inside) (below_there end rs n less)
      | inr over ↦ rw (le-ltb at end over) (below_there end rs n less)
    ]
below_there end (InputRecord at input ∷ rs) n less =
    elim (cases_lt at end) [
      | inl inside ↦
          rw (lt-ltb at end inside)
          (at-append ((at, input) ∷ []) (inputs_among (below end rs)) n ∙
          (ap (λ l. inputs_at ((at, input) ∷ []) n ++ l) (below_there end rs n less) ∙ sym (at-append ((at, input) ∷ []) (inputs_among rs) n)))
      | inr over ↦
          rw (le-ltb at end over, ne_eqb at n (λ (e : at ≡ n). absurd (omega arith))) (below_there end rs n less)
    ]

-- ---- a piece that covers a count

pub record Covers (pieces : ℕ → Cell FragmentParts) (places count : ℕ) : Type 0 where
  pub place : ℕ
  pub piece : FragmentParts
  pub gone_over : place < places
  pub one : pieces place ≡ One piece
  pub from : piece.from ≤ count
  pub to : count < piece.to

pub covered : (pieces : ℕ → Cell FragmentParts) (start n end count : ℕ) → Goes pieces start n end → start ≤ count → count < end → Covers pieces n count
covered pieces start zero end count goes from less = absurd (omega arith)
covered pieces start (suc n) end count (x, goes, one, is) from less =
    elim (cases_lt count x.from) [
      | inl before ↦
          let c = covered pieces start n x.from count goes from before in
          let over : c.place < n = c.gone_over in
          record { place = c.place; piece = c.piece; gone_over = omega arith; one = c.one; from = c.from; to = c.to }
      | inr here ↦ record { place = n; piece = x; gone_over = omega arith; one = one; from = here; to = omega arith }
    ]

-- the pieces of a hart that tell of a log
module _ (pieces : ℕ → Cell FragmentParts) (fits : (place : ℕ) (f : FragmentParts) → pieces place ≡ One f → IsFragment f) (log : Log (List Input)) (hart : ℕ)
    (tells : (place : ℕ) (f : FragmentParts) → pieces place ≡ One f → TellsOf log hart f) where
  -- each begins at the start or later
  from_start : (start n end place : ℕ) (f : FragmentParts) → Goes pieces start n end → place < n → pieces place ≡ One f → start ≤ f.from
  from_start start n end place f goes less one =
      let (x, before, is) = cut_short pieces start n place end goes less in
      let le = goes_above pieces start (λ p f one. (fits p f one).some) place x.from before in
      let same : x.from ≡ f.from = ap (λ f. f.from) (one_same is one) in omega arith

  -- a walk comes to no more than the log's end
  pub to_end : (start n end : ℕ) → Goes pieces start n end → start ≤ log.end hart → end ≤ log.end hart
  to_end start zero end goes le = omega arith
  to_end start (suc n) end (x, goes, one, is) le = let upto = (tells n x one).edges.end in omega arith

  -- an edge among the facts is the log's
  pub edge_of_log : (start n end limit : ℕ) (e : Edge) → Goes pieces start n end → Contains (edges_among (below limit (records_of pieces n))) e →
      Contains log.edges e × (e.hart ≡ hart) × (start ≤ e.step) × (e.step < limit)
  edge_of_log start n end limit e goes has =
      let f = fact_edge pieces n limit e has in
      let told = ((tells f.from.place f.from.piece f.from.one).edges.exact e).0
      (subst (Contains (piece_edges f.from.piece)) f.is (record_edge f.from.piece.records f.edge f.from.has)) in
      let begin = from_start start n end f.from.place f.from.piece goes f.from.gone_over f.from.one in
      let step : f.from.piece.from ≤ e.step = told.2 in
      (told.0, told.1, omega arith, f.inside)

  -- and the log's edges are among them
  pub edge_of_facts : (start n end limit : ℕ) (e : Edge) → Goes pieces start n end → limit ≤ end → Contains log.edges e → e.hart ≡ hart → start ≤ e.step →
      e.step < limit → Contains (edges_among (below limit (records_of pieces n))) e
  edge_of_facts start n end limit e goes le has own from less =
      let c = covered pieces start n end e.step goes from (omega arith) in
      let (x, at, is) = edge_record c.piece.records e (((tells c.place c.piece c.one).edges.exact e).1 (has, own, c.from, c.to)) in
      let step : x.at ≡ e.step = ap (λ e. e.step) is in
      subst (Contains (edges_among (below limit (records_of pieces n)))) is
      (record_edge (below limit (records_of pieces n)) x
      (to_filter (λ fact. nat_lt (count_of fact) limit) (records_of pieces n) (EdgeRecord x) (to_records pieces n c.place c.piece (EdgeRecord x) c.gone_over
      c.one at)
      (lt-ltb x.at limit (omega arith))))

  -- a piece has no inputs outside its range
  outside : (place : ℕ) (f : FragmentParts) (count : ℕ) → pieces place ≡ One f → (f.from ≤ count → count < f.to → ⊥) →
      inputs_at (inputs_among f.records) count ≡ []
  outside place f count one not =
      none_there f.records count
      (All-weaker (IsRecordOf f.guest.harts f.key.hart f.from f.to) (λ r. count_of r ≢ count)
      (λ r own same. not (omega (arith, own.1, same)) (omega (arith, own.2, same))) f.records
      (All-from_recursion (IsRecordOf f.guest.harts f.key.hart f.from f.to) f.records (fits place f one).records.each))

  -- a walk has none at its end or later
  none_after : (start n end count : ℕ) → Goes pieces start n end → end ≤ count → inputs_at (inputs_among (records_of pieces n)) count ≡ []
  none_after start zero end count goes le = refl
  none_after start (suc n) end count (x, goes, one, is) le =
      let some = (fits n x one).some in
      ap (λ l. inputs_at l count) (inputs_among-append (records_of pieces n) (records_in (pieces n))) ∙
      (at-append (inputs_among (records_of pieces n)) (inputs_among (records_in (pieces n))) count ∙
      (ap (λ l. l ++ inputs_at (inputs_among (records_in (pieces n))) count) (none_after start n x.from count goes (omega (arith, some))) ∙
      (ap (λ c. inputs_at (inputs_among (records_in c)) count) one ∙ outside n x count one (λ from to. absurd (omega arith)))))

  -- its inputs at a count are the log's
  inputs_there : (start n end count : ℕ) → Goes pieces start n end → start ≤ count → count < end → inputs_at (inputs_among (records_of pieces n)) count ≡
      log.inputs hart count
  inputs_there start zero end count goes from less = absurd (omega arith)
  inputs_there start (suc n) end count (x, goes, one, is) from less =
      ap (λ l. inputs_at l count) (inputs_among-append (records_of pieces n) (records_in (pieces n))) ∙
      (at-append (inputs_among (records_of pieces n)) (inputs_among (records_in (pieces n))) count ∙
      elim (cases_lt count x.from) [
        | inl before ↦
            ap (λ c. inputs_at (inputs_among (records_of pieces n)) count ++ inputs_at (inputs_among (records_in c)) count) one ∙
            (ap (λ l. inputs_at (inputs_among (records_of pieces n)) count ++ l) (outside n x count one (λ from to. absurd (omega arith))) ∙
            (append-nil (inputs_at (inputs_among (records_of pieces n)) count) ∙ inputs_there start n x.from count goes from before))
        | inr here ↦
            ap (λ l. l ++ inputs_at (inputs_among (records_in (pieces n))) count) (none_after start n x.from count goes here) ∙
            (ap (λ c. inputs_at (inputs_among (records_in c)) count) one ∙ (tells n x one).inputs count here (omega arith))
      ])

  pub inputs_of_facts : (start n end limit count : ℕ) → Goes pieces start n end → limit ≤ end → start ≤ count → count < limit →
      inputs_at (inputs_among (below limit (records_of pieces n))) count ≡ log.inputs hart count
  inputs_of_facts start n end limit count goes le from less =
      below_there limit (records_of pieces n) count less ∙ inputs_there start n end count goes from (omega arith)
