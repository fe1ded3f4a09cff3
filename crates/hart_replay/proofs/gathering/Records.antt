-- Records, one after the other, and what is taken of them.
use Rattle.std.proofs.Common.{◌≡◌, ◌≢◌, inl, inr, ℕ, zero, suc, ◌+◌, ◌<◌, ◌≤◌, List, [], ◌∷◌, ◌++◌, map, take, drop, length, get_or, All, Bool, true, false, nat_lt, refl, sym}
use Rattle.std.proofs.Common.{ap, subst, ◌∙◌, arith, le_trans, append_assoc, lt-ltb, le-ltb}
use Rattle.std.specs.List.{filter, filter_map}
use Rattle.std.proofs.Math.Path.{fun_ext}
use Rattle.std.proofs.lemmas.Bool.{cases_lt, and_parts, le-leb, leb-true, ltb-true}
use Rattle.std.proofs.lemmas.List.{take_more, drop_more, map-append, append-nil}
use Rattle.std.proofs.lemmas.List.Elements.{filter-append, filter_map-append, All-from_recursion, All-head, All-tail, All-weaker}
use Rattle.ft_types.specs.Counts.{count_at}
use Rattle.interleaving.specs.Log.{Edge}
use Rattle.interleaving.specs.Cuts.{IsEnough}
use Rattle.edge_log.specs.declared.Edge.{Edge as OwnedEdge}
use Rattle.edge_log.specs.EdgeLog.{Edges, edge_as, edges_of, row_of, start_of}
use Rattle.input_log.specs.declared.Input.{Input}
use Rattle.fragment_codec.specs.declared.types.Record.{Record}
use Rattle.fragment_codec.specs.declared.types.Record.TheVariants.{Edge as EdgeRecord, Input as InputRecord, Note as NoteRecord}
use Rattle.fragment_codec.specs.Rules.{FragmentParts, IsFragment, IsRecordOf, MayPrecede, AreInOrder, count_of}
use Rattle.fragment_codec.specs.Facts.{edge_in, input_in, note_in}
use Rattle.hart_replay.specs.Facts.{below, edges_among, inputs_among, notes_among}
use Rattle.hart_replay.specs.machinery.Taking.{TakesEdges, TakesUnmet, EdgesEndBy, is_between, between}
use Rattle.hart_replay.proofs.gathering.Unmet.{enough_met}

-- ---- order

no_earlier : (first second : Record) → MayPrecede first second → count_of first ≤ count_of second
no_earlier (EdgeRecord first) (EdgeRecord second) (inl less) = omega arith
no_earlier (EdgeRecord first) (EdgeRecord second) (inr (same, lower)) = omega arith
no_earlier (EdgeRecord first) (InputRecord at input) le = le
no_earlier (InputRecord at input) (EdgeRecord second) less = omega arith
no_earlier (InputRecord at input) (InputRecord next other) le = le
no_earlier (EdgeRecord first) (NoteRecord at number) le = le
no_earlier (InputRecord at input) (NoteRecord next number) le = le
no_earlier (NoteRecord at number) (EdgeRecord second) less = omega arith
no_earlier (NoteRecord at number) (InputRecord next input) less = omega arith
no_earlier (NoteRecord at number) (NoteRecord next more) less = omega (arith, less.0)

order_drop : (rs : List Record) (i : ℕ) → AreInOrder rs → AreInOrder (drop i rs)
order_drop rs zero order = order
order_drop [] (suc i) order = order
order_drop (r ∷ rs) (suc i) order = order_drop rs i order.1

-- no record behind one is at an earlier count
pub later : (rs : List Record) (i : ℕ) (r : Record) → AreInOrder rs → i < length rs → r ≡ get_or rs i r → All (λ s. count_of r ≤ count_of s) (drop (i + 1) rs)
later rs i r order less is =
    let here : drop i rs ≡ r ∷ drop (i + 1) rs = drop_more rs i r less ∙ ap (λ x. x ∷ drop (i + 1) rs) (sym is) in
    All-weaker (MayPrecede r) (λ s. count_of r ≤ count_of s) (no_earlier r) (drop (i + 1) rs)
    (All-from_recursion (MayPrecede r) (drop (i + 1) rs) (subst AreInOrder here (order_drop rs i order)).0)

-- what holds of a record and of those behind it
pub ahead_at : (P : Record → Type 0) (rs : List Record) (i : ℕ) (r : Record) → i < length rs → r ≡ get_or rs i r → All P (drop i rs) → P r ×
    All P (drop (i + 1) rs)
ahead_at P rs i r less is all =
    let here : drop i rs ≡ r ∷ drop (i + 1) rs = drop_more rs i r less ∙ ap (λ x. x ∷ drop (i + 1) rs) (sym is) in
    let both = subst (All P) here all in
    (All-head P r (drop (i + 1) rs) both, All-tail P r (drop (i + 1) rs) both)

-- ---- those below an end

pub below-append : (end : ℕ) (a b : List Record) → below end (a ++ b) ≡ below end a ++ below end b
below-append end a b = filter-append (λ fact. nat_lt (count_of fact) end) a b

pub edges_among-append : (a b : List Record) → edges_among (a ++ b) ≡ edges_among a ++ edges_among b
edges_among-append a b = ap (map edge_as) (filter_map-append edge_in a b) ∙ map-append edge_as (filter_map edge_in a) (filter_map edge_in b)

pub inputs_among-append : (a b : List Record) → inputs_among (a ++ b) ≡ inputs_among a ++ inputs_among b
inputs_among-append a b = filter_map-append input_in a b

pub notes_among-append : (a b : List Record) → notes_among (a ++ b) ≡ notes_among a ++ notes_among b
notes_among-append a b = filter_map-append note_in a b

module _ (p : Record → Bool) (rs : List Record) (i : ℕ) (r : Record) (less : i < length rs) (is : r ≡ get_or rs i r) where
  kept_more : filter p (take (i + 1) rs) ≡ filter p (take i rs) ++ filter p (r ∷ [])
  kept_more = ap (filter p) (take_more rs i r less ∙ ap (λ x. take i rs ++ x ∷ []) (sym is)) ∙ filter-append p (take i rs) (r ∷ [])

  pub edges_more : edges_among (filter p (take (i + 1) rs)) ≡ edges_among (filter p (take i rs)) ++ edges_among (filter p (r ∷ []))
  edges_more = ap edges_among kept_more ∙ edges_among-append (filter p (take i rs)) (filter p (r ∷ []))

  pub inputs_more : inputs_among (filter p (take (i + 1) rs)) ≡ inputs_among (filter p (take i rs)) ++ inputs_among (filter p (r ∷ []))
  inputs_more = ap inputs_among kept_more ∙ inputs_among-append (filter p (take i rs)) (filter p (r ∷ []))

  pub notes_more : notes_among (filter p (take (i + 1) rs)) ≡ notes_among (filter p (take i rs)) ++ notes_among (filter p (r ∷ []))
  notes_more = ap notes_among kept_more ∙ notes_among-append (filter p (take i rs)) (filter p (r ∷ []))

pub kept_one : (p : Record → Bool) (r : Record) → p r ≡ true → filter p (r ∷ []) ≡ r ∷ []
kept_one p r is = rw is refl

pub kept_none : (p : Record → Bool) (r : Record) → p r ≡ false → filter p (r ∷ []) ≡ []
kept_none p r is = rw is refl

-- nothing of a kind is kept of a record of another
none_kept : {A : Type 0} (f : List Record → List A) (p : Record → Bool) (r : Record) → f [] ≡ [] → f (r ∷ []) ≡ [] → f (filter p (r ∷ [])) ≡ []
none_kept f p r nothing other = go (p r) refl
  where
    go : (b : Bool) → p r ≡ b → f (filter p (r ∷ [])) ≡ []
    go true is = ap f (kept_one p r is) ∙ other
    go false is = ap f (kept_none p r is) ∙ nothing

-- a record of one kind is none of another
is_no_edge : (r : Record) → ((e : OwnedEdge) → r ≢ EdgeRecord e) → edges_among (r ∷ []) ≡ []
is_no_edge (EdgeRecord e) other = absurd (other e refl)
is_no_edge (InputRecord at input) other = refl
is_no_edge (NoteRecord at number) other = refl

pub no_edge : (p : Record → Bool) (r : Record) → ((e : OwnedEdge) → r ≢ EdgeRecord e) → edges_among (filter p (r ∷ [])) ≡ []
no_edge p r other = none_kept edges_among p r refl (is_no_edge r other)

is_no_input : (r : Record) → ((at : ℕ) (input : Input) → r ≢ InputRecord at input) → inputs_among (r ∷ []) ≡ []
is_no_input (EdgeRecord e) other = refl
is_no_input (InputRecord at input) other = absurd (other at input refl)
is_no_input (NoteRecord at number) other = refl

pub no_input : (p : Record → Bool) (r : Record) → ((at : ℕ) (input : Input) → r ≢ InputRecord at input) → inputs_among (filter p (r ∷ [])) ≡ []
no_input p r other = none_kept inputs_among p r refl (is_no_input r other)

is_no_note : (r : Record) → ((at number : ℕ) → r ≢ NoteRecord at number) → notes_among (r ∷ []) ≡ []
is_no_note (EdgeRecord e) other = refl
is_no_note (InputRecord at input) other = refl
is_no_note (NoteRecord at number) other = absurd (other at number refl)

pub no_note : (p : Record → Bool) (r : Record) → ((at number : ℕ) → r ≢ NoteRecord at number) → notes_among (filter p (r ∷ [])) ≡ []
no_note p r other = none_kept notes_among p r refl (is_no_note r other)

-- ---- those between two counts

-- the count is one of them
pub from_there : (from end at : ℕ) → is_between from end at ≡ true → (from ≤ at) × (at < end)
from_there from end at is = let p = and_parts _ _ is in (leb-true _ _ p.0, ltb-true _ _ p.1)

-- from 0 on, those below the end
pub from_zero : (end : ℕ) (rs : List Record) → between 0 end rs ≡ below end rs
from_zero end rs = ap (λ (p : Record → Bool). filter p rs) (fun_ext (λ r. rw (le-leb 0 (count_of r) (omega arith)) refl))

-- ---- records of a piece

pub record_at : (f : FragmentParts) (i : ℕ) (r : Record) → IsFragment f → i < length f.records → r ≡ get_or f.records i r →
    IsRecordOf f.guest.harts f.key.hart f.from f.to r
record_at f i r rules less is =
    subst (IsRecordOf f.guest.harts f.key.hart f.from f.to) (sym is) (All-from_recursion (IsRecordOf f.guest.harts f.key.hart f.from f.to) f.records
    rules.records.each i r less)

-- ---- edges that are taken

pub takes_one : (hart : ℕ) (met : ℕ → ℕ) (old now new : Edges) (added : List Edge) (e : OwnedEdge) → TakesUnmet hart met old added now → e.hart ≡ hart →
    new.start ≡ now.start → ((other : ℕ) → other ≢ e.hart → row_of new other ≡ row_of now other) →
    ((all : List Edge) → IsEnough (edges_of now) all met → IsEnough (edges_of new) (all ++ edge_as e ∷ []) met) →
    TakesUnmet hart met old (added ++ edge_as e ∷ []) new
takes_one hart met old now new added e taken own start others enough =
    record {
      start = start ∙ taken.start;
      others = λ other ne. others other (λ same. ne (same ∙ own)) ∙ taken.others other ne;
      enough =
          λ all was.
          subst (λ l. IsEnough (edges_of new) l met) (append_assoc all added (edge_as e ∷ [])) (enough (all ++ added) (taken.enough all was));
    }

-- one more record, of which nothing is taken
pub skips_edge : (hart : ℕ) (met : ℕ → ℕ) (old now : Edges) (p : Record → Bool) (rs : List Record) (i : ℕ) (r : Record) → i < length rs → r ≡ get_or rs i r →
    edges_among (filter p (r ∷ [])) ≡ [] → TakesUnmet hart met old (edges_among (filter p (take i rs))) now →
    TakesUnmet hart met old (edges_among (filter p (take (i + 1) rs))) now
skips_edge hart met old now p rs i r less is none taken =
    subst (λ l. TakesUnmet hart met old l now) (sym (edges_more p rs i r less is ∙ (ap (λ l. edges_among (filter p (take i rs)) ++ l) none ∙
    append-nil (edges_among (filter p (take i rs)))))) taken

-- one more edge, which is taken
pub takes_edge : (hart : ℕ) (met : ℕ → ℕ) (old now new : Edges) (p : Record → Bool) (rs : List Record) (i : ℕ) (e : OwnedEdge) → i < length rs →
    EdgeRecord e ≡ get_or rs i (EdgeRecord e) →
    p (EdgeRecord e) ≡ true → TakesUnmet hart met old (edges_among (filter p (take i rs))) now → e.hart ≡ hart →
    new.start ≡ now.start → ((other : ℕ) → other ≢ e.hart → row_of new other ≡ row_of now other) →
    ((all : List Edge) → IsEnough (edges_of now) all met → IsEnough (edges_of new) (all ++ edge_as e ∷ []) met) →
    TakesUnmet hart met old (edges_among (filter p (take (i + 1) rs))) new
takes_edge hart met old now new p rs i e less is inside taken own start others enough =
    subst (λ l. TakesUnmet hart met old l new)
    (sym (edges_more p rs i (EdgeRecord e) less is ∙ ap (λ l. edges_among (filter p (take i rs)) ++ l)
    (ap edges_among (kept_one p (EdgeRecord e) inside))))
    (takes_one hart met old now new (edges_among (filter p (take i rs))) e taken own start others enough)

-- one more edge, which the counts meet
pub meets_edge : (hart : ℕ) (met : ℕ → ℕ) (old now : Edges) (p : Record → Bool) (rs : List Record) (i : ℕ) (e : OwnedEdge) → i < length rs →
    EdgeRecord e ≡ get_or rs i (EdgeRecord e) →
    p (EdgeRecord e) ≡ true → TakesUnmet hart met old (edges_among (filter p (take i rs))) now → e.hart ≡ hart → e.after ≤ met e.other →
    TakesUnmet hart met old (edges_among (filter p (take (i + 1) rs))) now
meets_edge hart met old now p rs i e less is inside taken own le =
    takes_edge hart met old now now p rs i e less is inside taken own refl (λ other ne. refl)
    (λ all was. enough_met met (edges_of now) all (edge_as e) le was)

-- a hart's edges end where the last one that was added is
pub ends_by : (hart : ℕ) (new : Edges) (e : OwnedEdge) (count : ℕ) → e.hart ≡ hart → All (λ x. x.at ≤ e.at) (row_of new e.hart) → e.at ≤ count →
    EdgesEndBy new hart count
ends_by hart new e count own latest le =
    All-weaker (λ x. x.at ≤ e.at) (λ x. x.at ≤ count) (λ x l. le_trans l le) (row_of new hart) (subst (λ h. All (λ x. x.at ≤ e.at) (row_of new h)) own latest)

-- the record at a place, as it was read
pub read_at : (rs items : List Record) (i : ℕ) (r s : Record) → items ≡ rs → r ≡ get_or items i r → r ≡ s → s ≡ get_or rs i s
read_at rs items i r s same is named = subst (λ x. x ≡ get_or rs i x) named (subst (λ l. r ≡ get_or l i r) same is)

-- edges that are taken in two goes
pub takes_both_unmet : (hart : ℕ) (met : ℕ → ℕ) (old mid new : Edges) (a b : List Edge) → TakesUnmet hart met old a mid → TakesUnmet hart met mid b new →
    TakesUnmet hart met old (a ++ b) new
takes_both_unmet hart met old mid new a b one two =
    record {
      start = two.start ∙ one.start;
      others = λ other ne. two.others other ne ∙ one.others other ne;
      enough = λ all was. subst (λ l. IsEnough (edges_of new) l met) (append_assoc all a b) (two.enough (all ++ a) (one.enough all was));
    }

pub takes_both : (hart : ℕ) (old mid new : Edges) (a b : List Edge) → TakesEdges hart old a mid → TakesEdges hart mid b new → TakesEdges hart old (a ++ b) new
takes_both hart old mid new a b one two =
    takes_both_unmet hart (start_of old) old mid new a b one (subst (λ (s : List ℕ). TakesUnmet hart (count_at s) mid b new) one.start two)
