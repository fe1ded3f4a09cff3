-- The marks of a plan are those of what its store has noted inside the position.
use Rattle.std.proofs.Common.{◌≡◌, ◌⊎◌, inl, inr, ℕ, zero, suc, ◌<◌, ◌≤◌, max, nat_lt, List, [], ◌∷◌, Contains, Option, refl, sym, ap, subst, ◌∙◌, arith, lt-ltb}
use Rattle.std.proofs.lemmas.Bool.{cases_lt}
use Rattle.std.proofs.lemmas.List.Elements.{All-contains, Contains-append_right}
use Rattle.interleaving.proofs.Cuts.{here, here_or_later}
use Rattle.ft_types.specs.Counts.{count_at}
use Rattle.ft_types.specs.declared.position.Position.{Position}
use Rattle.input_log.specs.Notes.{greatest}
use Rattle.fragment_codec.specs.declared.types.Record.{Record}
use Rattle.fragment_codec.specs.declared.types.Record.TheVariants.{Edge as EdgeRecord, Input as InputRecord, Note as NoteRecord}
use Rattle.fragment_codec.specs.Rules.{FragmentParts, OpeningParts, count_of}
use Rattle.log_join.specs.Cells.{Cell, One}
use Rattle.log_join.specs.Families.{Past, HonestStore}
use Rattle.log_join.specs.Stores.{StoreView, opening_at}
use Rattle.closed_cut.specs.Chain.{IsParent, LeadsTo}
use Rattle.closed_cut.specs.Position.{pieces_of, base_of, Goes}
use Rattle.closed_cut.proofs.Reach.{cut_short}
use Rattle.hart_replay.specs.declared.plans.PlannedLeg.{PlannedLeg}
use Rattle.hart_replay.specs.Facts.{below, notes_among, records_of, records_in, HasMarks}
use Rattle.hart_replay.specs.Laws.{ArePlanned}
use Rattle.hart_replay.specs.Plans.{terms_of, noted_in, BeginsAtBase, EndAt}
use Rattle.hart_replay.proofs.gathering.Ends.{FromPiece, from_piece, in_filter}
use Rattle.hart_replay.proofs.gathering.Facts.{to_filter, to_records}
use Rattle.fenced_theory.specs.Recorders.{Recorder}
use Rattle.fenced_theory.specs.Families.{IsFamily, Keeps, Here, Above, IsInside, Boot, At}
use Rattle.fenced_theory.specs.Notes.{notes_in, IsTold, IsMark}
use Rattle.fenced_theory.proofs.Growing.{an_opening, one_same, some_same, some_none}

-- ---- notes among records

note_record : (rs : List Record) (x : ℕ × ℕ) → Contains (notes_among rs) x → Contains rs (NoteRecord x.0 x.1)
note_record [] x (k, less, is) = absurd (omega arith)
note_record (EdgeRecord e ∷ rs) x has = Contains-append_right (EdgeRecord e ∷ []) rs (NoteRecord x.0 x.1) (note_record rs x has)
note_record (InputRecord at input ∷ rs) x has = Contains-append_right (InputRecord at input ∷ []) rs (NoteRecord x.0 x.1) (note_record rs x has)
note_record (NoteRecord at number ∷ rs) x has =
    elim (here_or_later (at, number) (notes_among rs) x has) [
      | inl same ↦ subst (λ (y : ℕ × ℕ). Contains (NoteRecord at number ∷ rs) (NoteRecord y.0 y.1)) same (here (NoteRecord at number) rs)
      | inr later ↦ Contains-append_right (NoteRecord at number ∷ []) rs (NoteRecord x.0 x.1) (note_record rs x later)
    ]

record_note : (rs : List Record) (x : ℕ × ℕ) → Contains rs (NoteRecord x.0 x.1) → Contains (notes_among rs) x
record_note [] x (k, less, is) = absurd (omega arith)
record_note (EdgeRecord e ∷ rs) x has =
    elim (here_or_later (EdgeRecord e) rs (NoteRecord x.0 x.1) has) [ inl same ↦ cc | inr later ↦ record_note rs x later ]
record_note (InputRecord at input ∷ rs) x has =
    elim (here_or_later (InputRecord at input) rs (NoteRecord x.0 x.1) has) [ inl same ↦ cc | inr later ↦ record_note rs x later ]
record_note (NoteRecord at number ∷ rs) x has =
    elim (here_or_later (NoteRecord at number) rs (NoteRecord x.0 x.1) has) [
      | inl same ↦ subst (λ (y : ℕ × ℕ). Contains ((at, number) ∷ notes_among rs) y) (same_note same) (here (at, number) (notes_among rs))
      | inr later ↦ Contains-append_right ((at, number) ∷ []) (notes_among rs) x (record_note rs x later)
    ]
  where
    count_in : Record → ℕ
    count_in r = count_of r

    number_in : Record → ℕ
    number_in (EdgeRecord e) = 0
    number_in (InputRecord at input) = 0
    number_in (NoteRecord at number) = number

    same_note : NoteRecord at number ≡ NoteRecord x.0 x.1 → (at, number) ≡ x
    same_note e = λ i. (count_in (e i), number_in (e i))

-- ---- the greatest number

greatest_least : (notes : List (ℕ × ℕ)) (x : ℕ × ℕ) → Contains notes x → x.1 ≤ greatest notes
greatest_least [] x (k, less, is) = absurd (omega arith)
greatest_least (y ∷ notes) x has =
    elim (here_or_later y notes x has) [
      | inl same ↦ let e : y.1 ≡ x.1 = ap (λ (z : ℕ × ℕ). z.1) same in omega arith
      | inr later ↦ let le : x.1 ≤ greatest notes = greatest_least notes x later in omega arith
    ]

greatest_there : (notes : List (ℕ × ℕ)) → (greatest notes ≡ 0) ⊎ ((x : ℕ × ℕ) × Contains notes x × (x.1 ≡ greatest notes))
greatest_there [] = inl refl
greatest_there (y ∷ notes) =
    elim (cases_lt y.1 (greatest notes)) [
      | inl less ↦
          elim (greatest_there notes) [
            | inl none ↦ absurd (omega arith)
            | inr (x, has, is) ↦
                inr (x, Contains-append_right (y ∷ []) notes x has, is ∙ (let e : greatest notes ≡ max y.1 (greatest notes) = omega arith in e))
          ]
      | inr over ↦ inr (y, here y notes, let e : y.1 ≡ max y.1 (greatest notes) = omega arith in e)
    ]

noted_least : (legs : List PlannedLeg) (leg : PlannedLeg) (hart : ℕ) → Contains legs leg → count_at leg.marks hart ≤ noted_in legs hart
noted_least [] leg hart (k, less, is) = absurd (omega arith)
noted_least (first ∷ legs) leg hart has =
    elim (here_or_later first legs leg has) [
      | inl same ↦ let e : count_at first.marks hart ≡ count_at leg.marks hart = ap (λ (l : PlannedLeg). count_at l.marks hart) same in omega arith
      | inr later ↦ let le : count_at leg.marks hart ≤ noted_in legs hart = noted_least legs leg hart later in omega arith
    ]

noted_there : (legs : List PlannedLeg) (hart : ℕ) →
    (noted_in legs hart ≡ 0) ⊎ ((leg : PlannedLeg) × Contains legs leg × (count_at leg.marks hart ≡ noted_in legs hart))
noted_there [] hart = inl refl
noted_there (leg ∷ legs) hart =
    elim (cases_lt (count_at leg.marks hart) (noted_in legs hart)) [
      | inl less ↦
          elim (noted_there legs hart) [
            | inl none ↦ absurd (omega arith)
            | inr (l, has, is) ↦
                inr (l, Contains-append_right (leg ∷ []) legs l has, is ∙ (let e : noted_in legs hart ≡ max (count_at leg.marks hart) (noted_in legs hart) = omega arith in e))
          ]
      | inr over ↦ inr (leg, here leg legs, let e : count_at leg.marks hart ≡ max (count_at leg.marks hart) (noted_in legs hart) = omega arith in e)
    ]

-- ---- walks over pieces

-- no walk goes over more places than one that can't go on
no_more_places : (pieces : ℕ → Cell FragmentParts) (start n a m b : ℕ) → Goes pieces start n a →
    ((f : FragmentParts) → pieces n ≡ One f → f.from ≡ a → ⊥) → Goes pieces start m b → m ≤ n
no_more_places pieces start n a m b short stops long =
    elim (cases_lt n m) [
      | inl less ↦
          (let (x, goes, one) = cut_short pieces start m n b long less in
          absurd (stops x one (one_end n x.from a goes short)))
      | inr le ↦ le
    ]
  where
    one_end : (place p q : ℕ) → Goes pieces start place p → Goes pieces start place q → p ≡ q
    one_end zero p q x y = x ∙ sym y
    one_end (suc place) p q (x, gx, isx, ex) (y, gy, isy, ey) = ex ∙ (ap (λ (f : FragmentParts). f.to) (one_same isx isy) ∙ sym ey)

module _ {Book Fact : Type 0} (recorder : Recorder Book Fact) (terms : ℕ → Option (Past Book)) (family : IsFamily recorder terms) (s : StoreView)
    (honest : HonestStore terms s) (p : Position) (all : List PlannedLeg) (planned : ArePlanned s p all) (hart : ℕ) where
  begins : (leg : PlannedLeg) → Contains all leg → BeginsAtBase s leg
  begins leg has = All-contains (BeginsAtBase s) all leg planned.bases has

  marks_of : (leg : PlannedLeg) → Contains all leg → HasMarks s leg
  marks_of leg has = All-contains (HasMarks s) all leg planned.marks has

  -- nothing is kept by term 0
  none_at_0 : {G : Type 0} (term step : ℕ) {u : ℕ} → u ≡ 0 → Keeps terms term hart step u → G
  none_at_0 term step same (Here {u = u} q is up low) = some_none is (ap terms same ∙ family.none)
  none_at_0 term step same (Above {u = u} q is k) = some_none is (ap terms same ∙ family.none)

  -- ---- a mark is the number of a note of the store, or 0

  its_facts : (leg : PlannedLeg) → Contains all leg → List Record
  its_facts leg has = below (count_at leg.ends hart) (records_of (pieces_of s leg.term hart) ((marks_of leg has).avail.places hart))

  is_told : (leg : PlannedLeg) (has : Contains all leg) (x : ℕ × ℕ) → Contains (notes_among (its_facts leg has)) x → IsTold s leg.term hart x
  unfolding marks_of its_facts
  is_told leg has x at =
      let m : HasMarks s leg = marks_of leg has in
      let b : BeginsAtBase s leg = begins leg has in
      let pieces : ℕ → Cell FragmentParts = pieces_of s leg.term hart in
      let records : List Record = records_of pieces (m.avail.places hart) in
      let (in_records, low) = in_filter (λ fact. nat_lt (count_of fact) (count_at leg.ends hart)) records (NoteRecord x.0 x.1) (note_record (its_facts leg has) x at) in
      let f : FromPiece pieces (m.avail.places hart) (NoteRecord x.0 x.1) = from_piece pieces (m.avail.places hart) (NoteRecord x.0 x.1) in_records in
      record {
        opening = b.opening;
        opens = b.opens;
        places = m.avail.places hart;
        end = m.avail.end hart;
        goes = subst (λ (row : List ℕ). Goes pieces (count_at row hart) (m.avail.places hart) (m.avail.end hart)) b.base (m.avail.goes hart);
        place = f.place;
        over = f.gone_over;
        piece = f.piece;
        one = f.one;
        tells = record_note f.piece.records x f.has;
      }

  its_mark : (noted_in all hart ≡ 0) ⊎ ((term : ℕ) × (note : ℕ × ℕ) × IsTold s term hart note × (note.1 ≡ noted_in all hart))
  unfolding its_facts
  its_mark =
      elim (noted_there all hart) [
        | inl none ↦ inl none
        | inr (leg, has, is) ↦
            (let m : HasMarks s leg = marks_of leg has in
            elim (greatest_there (notes_among (its_facts leg has))) [
              | inl none ↦ inl (sym is ∙ m.exact hart ∙ none)
              | inr (x, at, same) ↦ inr (leg.term, x, is_told leg has x at, same ∙ sym (m.exact hart) ∙ is)
            ])
      ]

  -- ---- each note inside is among the facts of a leg

  -- the term's leg ends above the step
  record Found (term step : ℕ) : Type 0 where
    leg : PlannedLeg
    has : Contains all leg
    its : leg.term ≡ term
    inside : step < count_at leg.ends hart

  -- what the leg's term keeps was found
  at_leg : (now : ℕ) (leg : PlannedLeg) → Contains all leg → IsParent s now leg.term → ((term step : ℕ) → Keeps terms term hart step now → Found term step) →
      ((step : ℕ) → step < count_at leg.base hart → Found now step) → (term step : ℕ) {u : ℕ} → u ≡ leg.term → Keeps terms term hart step u → Found term step
  at_leg now leg has parent so_far before term step same (Here {u = u} q is up low) =
      let b : BeginsAtBase s leg = begins leg has in
      let (r, is_r, e) = an_opening terms s leg.term b.opening honest b.opens in
      let own : q.opening ≡ b.opening = ap (λ (x : Past Book). x.opening) (some_same is (ap terms same ∙ is_r)) ∙ e in
      let at_now : b.opening.parent ≡ now = ap (λ (o : OpeningParts). o.parent) (one_same b.opens parent.opens) ∙ parent.is in
      let here_is : now ≡ term = sym at_now ∙ ap (λ (o : OpeningParts). o.parent) (sym own) ∙ up in
      let below_base : step < count_at leg.base hart =
      subst (λ (row : List ℕ). step < count_at row hart) (ap (λ (o : OpeningParts). o.base) own ∙ sym b.base) low in
      subst (λ n. Found n step) here_is (before step below_base)
  at_leg now leg has parent so_far before term step same (Above {u = u} q is k) =
      let b : BeginsAtBase s leg = begins leg has in
      let (r, is_r, e) = an_opening terms s leg.term b.opening honest b.opens in
      let own : q.opening ≡ b.opening = ap (λ (x : Past Book). x.opening) (some_same is (ap terms same ∙ is_r)) ∙ e in
      let at_now : b.opening.parent ≡ now = ap (λ (o : OpeningParts). o.parent) (one_same b.opens parent.opens) ∙ parent.is in
      so_far term step (subst (λ n. Keeps terms term hart step n) (ap (λ (o : OpeningParts). o.parent) own ∙ at_now) k)

  -- what the position has inside was found
  record AllFound : Type 0 where
    kept : (term step : ℕ) → Keeps terms term hart step p.term → Found term step
    own : (step : ℕ) → step < count_at p.counts hart → Found p.term step

  walk : (now : ℕ) (leg : PlannedLeg) (rest : List PlannedLeg) → ((l : PlannedLeg) → Contains (leg ∷ rest) l → Contains all l) →
      LeadsTo s now (terms_of (leg ∷ rest)) p.term → EndAt p.counts (leg ∷ rest) → ((term step : ℕ) → Keeps terms term hart step now → Found term step) →
      ((step : ℕ) → step < count_at leg.base hart → Found now step) → AllFound
  walk now leg [] into (parent, top) ends so_far before =
      record {
        kept = λ term step k. at_leg now leg (into leg (here leg [])) parent so_far before term step (sym top) k;
        own = λ step less. record {
          leg = leg;
          has = into leg (here leg []);
          its = top;
          inside = subst (λ (row : List ℕ). step < count_at row hart) (sym ends) less;
        };
      }
  walk now leg (next ∷ rest) into (parent, leads) (joins, ends) so_far before =
      walk leg.term next rest (λ l has. into l (Contains-append_right (leg ∷ []) (next ∷ rest) l has)) leads ends
      (λ term step k. at_leg now leg (into leg (here leg (next ∷ rest))) parent so_far before term step refl k)
      (λ step less. record {
        leg = leg;
        has = into leg (here leg (next ∷ rest));
        its = refl;
        inside = subst (λ (row : List ℕ). step < count_at row hart) (sym joins) less;
      })

  -- the first leg is that of a term from boot
  none_before : (leg : PlannedLeg) → Contains all leg → IsParent s 0 leg.term → (step : ℕ) → step < count_at leg.base hart → Found 0 step
  none_before leg has parent step less =
      let b : BeginsAtBase s leg = begins leg has in
      let (r, is_r, e) = an_opening terms s leg.term b.opening honest b.opens in
      let first : r.opening.parent ≡ 0 = ap (λ (o : OpeningParts). o.parent) (e ∙ one_same b.opens parent.opens) ∙ parent.is in
      let low : step < base_of r.opening hart =
      subst (λ (row : List ℕ). step < count_at row hart) (b.base ∙ ap (λ (o : OpeningParts). o.base) (sym e)) less in
      elim ((family.honest leg.term r is_r).starts) [
        | Boot none zeros a boots on ↦ let z : base_of r.opening hart ≡ 0 = zeros hart in absurd (omega arith)
        | At a there lower above settled closed c lives on ↦ some_none there (ap terms first ∙ family.none)
      ]

  found : (legs : List PlannedLeg) → ((l : PlannedLeg) → Contains legs l → Contains all l) → LeadsTo s 0 (terms_of legs) p.term → EndAt p.counts legs →
      (term : ℕ) (note : ℕ × ℕ) → IsInside terms term hart note.0 p → IsTold s term hart note → Found term note.0
  found [] into leads ends term note (inl (is_term, low)) told =
      let (r, is_r, e) = an_opening terms s term told.opening honest told.opens in
      some_none is_r (ap terms (sym is_term ∙ sym leads) ∙ family.none)
  found [] into leads ends term note (inr k) told = none_at_0 term note.0 (sym leads) k
  found (leg ∷ rest) into leads ends term note inside told =
      let all_found : AllFound =
      walk 0 leg rest into leads ends (λ t n k. none_at_0 t n refl k) (none_before leg (into leg (here leg rest)) leads.0) in
      elim inside [
        | inl (is_term, low) ↦ subst (λ n. Found n note.0) is_term (all_found.own note.0 low)
        | inr k ↦ all_found.kept term note.0 k
      ]

  not_above : (term : ℕ) (note : ℕ × ℕ) → IsInside terms term hart note.0 p → IsTold s term hart note → note.1 ≤ noted_in all hart
  unfolding its_facts marks_of
  not_above term note inside told =
      let f : Found term note.0 = found all (λ l has. has) planned.terms planned.ends term note inside told in
      let m : HasMarks s f.leg = marks_of f.leg f.has in
      let b : BeginsAtBase s f.leg = begins f.leg f.has in
      let pieces : ℕ → Cell FragmentParts = pieces_of s f.leg.term hart in
      let base : base_of told.opening hart ≡ count_at f.leg.base hart =
      ap (λ (o : OpeningParts). count_at o.base hart) (one_same told.opens (ap (opening_at s) (sym f.its) ∙ b.opens)) ∙
      ap (λ (row : List ℕ). count_at row hart) (sym b.base) in
      let goes : Goes pieces (count_at f.leg.base hart) told.places told.end =
      subst (λ n. Goes pieces n told.places told.end) base
      (subst (λ n. Goes (pieces_of s n hart) (base_of told.opening hart) told.places told.end) (sym f.its) told.goes) in
      let few : told.places ≤ m.avail.places hart =
      no_more_places pieces (count_at f.leg.base hart) (m.avail.places hart) (m.avail.end hart) told.places told.end (m.avail.goes hart) (m.avail.stops hart) goes in
      let over : told.place < told.places = told.over in
      let there : Contains (records_of pieces (m.avail.places hart)) (NoteRecord note.0 note.1) =
      to_records pieces (m.avail.places hart) told.place told.piece (NoteRecord note.0 note.1) (omega arith)
      (subst (λ n. pieces_of s n hart told.place ≡ One told.piece) (sym f.its) told.one) (note_record told.piece.records note told.tells) in
      let among : Contains (notes_among (its_facts f.leg f.has)) note =
      record_note (its_facts f.leg f.has) note
      (to_filter (λ fact. nat_lt (count_of fact) (count_at f.leg.ends hart)) (records_of pieces (m.avail.places hart)) (NoteRecord note.0 note.1) there
      (lt-ltb note.0 (count_at f.leg.ends hart) f.inside)) in
      let least : note.1 ≤ greatest (notes_among (its_facts f.leg f.has)) = greatest_least (notes_among (its_facts f.leg f.has)) note among in
      let exact : count_at f.leg.marks hart ≡ greatest (notes_among (its_facts f.leg f.has)) = m.exact hart in
      let most : count_at f.leg.marks hart ≤ noted_in all hart = noted_least all f.leg hart f.has in
      omega arith

  pub are_marks : IsMark terms s p hart (noted_in all hart)
  are_marks = record { greatest = not_above; told = its_mark }
