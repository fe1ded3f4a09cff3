-- Looking for the least edge that the counts do not meet.
use Rattle.std.proofs.Common.{◌≡◌, ◌≢◌, inl, inr, ℕ, ◌<◌, ◌≤◌, List, [], ◌∷◌, ◌++◌, Contains, Option, Some, None, IfSome, IfNone, refl, sym, ap, subst, ◌∙◌, arith}
use Rattle.std.proofs.Common.{take, length, get_or, ◌+◌}
use Rattle.std.specs.List.{filter_map}
use Rattle.std.proofs.lemmas.List.{take_more, append-nil}
use Rattle.fragment_codec.specs.declared.types.Record.{Record}
use Rattle.fragment_codec.specs.declared.types.Record.TheVariants.{Edge as EdgeRecord, Input as InputRecord, Note as NoteRecord}
use Rattle.input_log.specs.declared.Input.{Input as HartInput}
use Rattle.fragment_codec.specs.Facts.{edge_in}
use Rattle.std.proofs.lemmas.List.Elements.{Contains-append_cases, Contains-append_left, Contains-append_right, filter_map-append}
use Rattle.interleaving.proofs.Cuts.{here, here_or_later}
use Rattle.edge_log.specs.declared.Edge.{Edge}
use Rattle.tracked_position.specs.machinery.Cuts.{Meets}
use Rattle.tracked_position.specs.machinery.Walks.{IsLeastUnmet}

-- an edge of these that is not met, at the count below which all are
pub record IsLeastYet (edges : List Edge) (cut : ℕ → ℕ) (ceiling below : ℕ) (e : Edge) : Type 0 where
  pub has : Contains edges e
  pub at : e.at ≡ below
  pub under : e.at < ceiling
  pub unmet : cut e.other < e.after

pub record Scanned (edges : List Edge) (cut : ℕ → ℕ) (ceiling : ℕ) (least : Option Edge) (below : ℕ) : Type 0 where
  pub under : below ≤ ceiling
  pub met : (e : Edge) → Contains edges e → e.at < below → Meets cut e
  pub some : IfSome least (IsLeastYet edges cut ceiling below)
  pub none : IfNone least (below ≡ ceiling)

only : (x y : Edge) → Contains (x ∷ []) y → x ≡ y
only x y has = elim (here_or_later x [] y has) [ inl is ↦ is | inr (k, below, is) ↦ absurd (omega arith) ]

more : (edges : List Edge) (x : Edge) (cut : ℕ → ℕ) (ceiling below : ℕ) (least : Option Edge) → IfSome least (IsLeastYet edges cut ceiling below) →
    IfSome least (IsLeastYet (edges ++ x ∷ []) cut ceiling below)
more edges x cut ceiling below None some = tt
more edges x cut ceiling below (Some e) some =
    record { has = Contains-append_left edges (x ∷ []) e some.has; at = some.at; under = some.under; unmet = some.unmet }

pub scanned_none : (cut : ℕ → ℕ) (ceiling : ℕ) → Scanned [] cut ceiling None ceiling
scanned_none cut ceiling = record { under = omega arith; met = λ e (k, below, is) less. absurd (omega arith); some = tt; none = refl }

module _ (edges : List Edge) (cut : ℕ → ℕ) (ceiling below : ℕ) (least : Option Edge) (so_far : Scanned edges cut ceiling least below) (x : Edge) where
  pub scanned_skip : (x.at < below → Meets cut x) → Scanned (edges ++ x ∷ []) cut ceiling least below
  scanned_skip fine =
      record {
        under = so_far.under;
        met =
            λ e has less.
            elim (Contains-append_cases edges (x ∷ []) e has) [
              | inl before ↦ so_far.met e before less
              | inr last ↦ let is = only x e last in subst (Meets cut) is (fine (subst (λ (y : Edge). y.at < below) (sym is) less))
            ];
        some = more edges x cut ceiling below least so_far.some;
        none = so_far.none;
      }

  pub scanned_take : x.at < below → cut x.other < x.after → Scanned (edges ++ x ∷ []) cut ceiling (Some x) x.at
  scanned_take less unmet =
      let u : below ≤ ceiling = so_far.under in
      record {
        under = omega arith;
        met =
            λ e has lower.
            elim (Contains-append_cases edges (x ∷ []) e has) [
              | inl before ↦ so_far.met e before (omega arith)
              | inr last ↦ let is : x.at ≡ e.at = ap (λ (y : Edge). y.at) (only x e last) in absurd (omega arith)
            ];
        some = record { has = Contains-append_right edges (x ∷ []) x (here x []); at = refl; under = omega arith; unmet = unmet };
        none = tt;
      }

-- the edges of one record more
pub edges_more : (records : List Record) (i : ℕ) (x : Record) → i < length records → x ≡ get_or records i x →
    filter_map edge_in (take (i + 1) records) ≡ filter_map edge_in (take i records) ++ filter_map edge_in (x ∷ [])
edges_more records i x less is =
    ap (filter_map edge_in) (take_more records i x less ∙ ap (λ y. take i records ++ y ∷ []) (sym is)) ∙
    filter_map-append edge_in (take i records) (x ∷ [])

pub scanned_some : (edges : List Edge) (cut : ℕ → ℕ) (ceiling below : ℕ) (least : Option Edge) → Scanned edges cut ceiling least below →
    IfSome least (IsLeastUnmet edges cut ceiling)
scanned_some edges cut ceiling below None so_far = tt
scanned_some edges cut ceiling below (Some e) so_far =
    record {
      has = so_far.some.has;
      below = so_far.some.under;
      unmet = so_far.some.unmet;
      first = λ other has less. so_far.met other has (let at : e.at ≡ below = so_far.some.at in omega arith);
    }

pub scanned_all : (edges : List Edge) (cut : ℕ → ℕ) (ceiling below : ℕ) (least : Option Edge) → Scanned edges cut ceiling least below →
    IfNone least ((e : Edge) → Contains edges e → e.at < ceiling → Meets cut e)
scanned_all edges cut ceiling below None so_far = λ e has less. so_far.met e has (let at : below ≡ ceiling = so_far.none in omega arith)
scanned_all edges cut ceiling below (Some e) so_far = tt

-- the scan goes on with a record that has an edge, which is taken or not, or has none
module _ (records : List Record) (i : ℕ) (x : Record) (less : i < length records) (is : x ≡ get_or records i x) (cut : ℕ → ℕ) (ceiling below : ℕ)
    (least : Option Edge) (so_far : Scanned (filter_map edge_in (take i records)) cut ceiling least below) where
  pub next_taken : (e : Edge) → x ≡ EdgeRecord e → e.at < below → cut e.other < e.after →
      Scanned (filter_map edge_in (take (i + 1) records)) cut ceiling (Some e) e.at
  next_taken e edge under unmet =
      rw (edges_more records i x less is, edge) (scanned_take (filter_map edge_in (take i records)) cut ceiling below least so_far e under unmet)

  pub next_skipped : (e : Edge) → x ≡ EdgeRecord e → (e.at < below → e.after ≤ cut e.other) →
      Scanned (filter_map edge_in (take (i + 1) records)) cut ceiling least below
  next_skipped e edge fine =
      rw (edges_more records i x less is, edge) (scanned_skip (filter_map edge_in (take i records)) cut ceiling below least so_far e fine)

  no_edge : (r : Record) → ((e : Edge) → r ≢ EdgeRecord e) → filter_map edge_in (r ∷ []) ≡ []
  no_edge (EdgeRecord e) other = absurd (other e refl)
  no_edge (InputRecord at input) other = refl
  no_edge (NoteRecord at number) other = refl

  pub next_other : ((e : Edge) → x ≢ EdgeRecord e) → Scanned (filter_map edge_in (take (i + 1) records)) cut ceiling least below
  next_other other = rw (edges_more records i x less is, no_edge x other, append-nil (filter_map edge_in (take i records))) so_far
