-- Edges that are added at settled counts or later.
use Rattle.std.proofs.Common.{◌≡◌, ◌≤◌, ◌<◌, ◌++◌, ◌∷◌, ℕ, Bool, false, List, [], All, Any, Contains, filter, nat_lt, get_or, refl, sym, ap, subst, ◌∙◌}
use Rattle.std.proofs.Common.{inl, inr, le_trans, le_refl, le_of_eq, le_of_lt, length}
use Rattle.std.proofs.lemmas.Bool.{cases_eq, cases_lt, lt-ltb, le-ltb}
use Rattle.std.proofs.lemmas.List.{get_or_default}
use Rattle.std.proofs.lemmas.List.Elements.{All-head, All-tail, All-weaker, All-contains, Contains-get_or, filter-append}
use Rattle.edge_log.specs.declared.Edge.{Edge}
use Rattle.edge_log.specs.EdgeLog.{Edges, row_of, edge_as, IsAdded, Stays, Enters, AreAdded, AddsLater}
use Rattle.edge_log.specs.Rows.{IsPut, IsTwin, AsksAsMuch, SayOn}
use Rattle.edge_log.proofs.Rows.{put_has, put_kept, all_put}
use Rattle.edge_log.proofs.Logs.{to_edges}

-- what no element passes leaves nothing
none_pass : (p : Edge → Bool) (xs : List Edge) → All (λ e. p e ≡ false) xs → filter p xs ≡ []
none_pass p [] fails = refl
none_pass p (x ∷ xs) fails =
    let here : p x ≡ false = All-head (λ e. p e ≡ false) x xs fails in
    rw here (none_pass p xs (All-tail (λ e. p e ≡ false) x xs fails))

-- an edge says as much as itself
says_itself : (xs : List Edge) (k : ℕ) (d : Edge) → k < length xs → Any (λ by. AsksAsMuch by (get_or xs k d)) xs
says_itself xs k d below = (
  k,
  get_or xs k d,
  below,
  get_or_default xs k (get_or xs k d) d below,
  record { other = refl; at = le_refl (get_or xs k d).at; after = le_refl (get_or xs k d).after },
)

-- one that is there says as much as one of which it says as much
says_there : (xs : List Edge) (x e : Edge) → Contains xs x → AsksAsMuch x e → Any (λ by. AsksAsMuch by e) xs
says_there xs x e (k, below, is) asks = (k, x, below, is, asks)

asks_on : (y x e : Edge) → AsksAsMuch y x → AsksAsMuch x e → AsksAsMuch y e
asks_on y x e p q =
    record {
      other = p.other ∙ q.other;
      at = le_trans p.at q.at;
      after = le_trans q.after p.after;
    }

pub say_same : (row : List Edge) (n : ℕ) → SayOn row n row
say_same row n = record { below = refl; said = λ k d small. says_itself row k d small }

-- ---- an edge is put

module _ (old : List Edge) (e : Edge) (new : List Edge) (put : IsPut old e new) (n : ℕ) (later : n ≤ e.at)
    (more : (x : Edge) → Contains old x → IsTwin x e → x.after ≤ e.after) where
  put_below : filter (λ x. nat_lt x.at n) new ≡ filter (λ x. nat_lt x.at n) old
  put_below =
      ap (filter (λ x. nat_lt x.at n)) put.is
      ∙ filter-append (λ x. nat_lt x.at n) put.front (e ∷ put.back)
      ∙ ap (λ (row : List Edge). filter (λ x. nat_lt x.at n) put.front ++ row)
      (one ∙ sym (filter-append (λ x. nat_lt x.at n) put.twin put.back ∙ twins))
      ∙ sym (filter-append (λ x. nat_lt x.at n) put.front (put.twin ++ put.back))
      ∙ ap (filter (λ x. nat_lt x.at n)) (sym put.was)
    where
      one : filter (λ x. nat_lt x.at n) (e ∷ put.back) ≡ filter (λ x. nat_lt x.at n) put.back
      one = rw (le-ltb e.at n later) refl

      twins : filter (λ x. nat_lt x.at n) put.twin ++ filter (λ x. nat_lt x.at n) put.back ≡ filter (λ x. nat_lt x.at n) put.back
      twins =
          ap (λ (row : List Edge). row ++ filter (λ x. nat_lt x.at n) put.back)
          (none_pass (λ x. nat_lt x.at n) put.twin
          (All-weaker (λ x. IsTwin x e) (λ x. nat_lt x.at n ≡ false)
          (λ x twin. le-ltb x.at n (subst (λ (m : ℕ). n ≤ m) (sym twin.at) later)) put.twin put.made_way))

  pub say_put : SayOn old n new
  say_put =
      record {
        below = put_below;
        said = λ k d small.
            let there : Contains old (get_or old k d) = Contains-get_or old k d small in
            elim (put_kept old e new put (get_or old k d) there) [
              | inl kept ↦ says_there new (get_or old k d) (get_or old k d) kept
                  (record { other = refl; at = le_refl (get_or old k d).at; after = le_refl (get_or old k d).after })
              | inr twin ↦
                  says_there new e (get_or old k d) (put_has old e new put)
                  (record { other = sym twin.other; at = le_of_eq (sym twin.at); after = more (get_or old k d) there twin })
            ];
      }

-- ---- rows, one after the other

-- what is before the lesser count is before the greater one
fewer_of : (xs : List Edge) (m n : ℕ) → m ≤ n → filter (λ x. nat_lt x.at m) (filter (λ x. nat_lt x.at n) xs) ≡ filter (λ x. nat_lt x.at m) xs
fewer_of [] m n le = refl
fewer_of (x ∷ xs) m n le = elim (cases_lt x.at n) [
  | inl less ↦
      elim (cases_lt x.at m) [
        | inl early ↦ rw (lt-ltb x.at n less, lt-ltb x.at m early) (ap (λ (row : List Edge). x ∷ row) (fewer_of xs m n le))
        | inr late ↦ rw (lt-ltb x.at n less, le-ltb x.at m late) (fewer_of xs m n le)
      ]
  | inr more ↦ rw (le-ltb x.at n more, le-ltb x.at m (le_trans le more)) (fewer_of xs m n le)
]

pub say_on : (a b c : List Edge) (m n : ℕ) → m ≤ n → SayOn a m b → SayOn b n c → SayOn a m c
say_on a b c m n le p q =
    record {
      below =
          sym (fewer_of c m n le) ∙ ap (filter (λ x. nat_lt x.at m)) q.below ∙ fewer_of b m n le ∙ p.below;
      said = λ k d small.
          let (j, x, below, is, asks) = p.said k d small in
          let (i, y, under, same, asks_it) = q.said j x below in (
            i,
            y,
            under,
            same,
            asks_on y x (get_or a k d) (subst (λ (z : Edge). AsksAsMuch y z) is asks_it) asks,
          );
    }

-- ---- logs

-- each row's edges are its hart's
abbrev pub AreOwn : Edges → Type 0
AreOwn a = (hart : ℕ) → All (λ e. e.hart ≡ hart) (row_of a hart)

pub adds_nothing : (a : Edges) (m : ℕ → ℕ) (b : Edges) → b ≡ a → AddsLater a m b
adds_nothing a m b same =
    subst (λ (x : Edges). AddsLater a m x) (sym same) (record { start = refl; rows = λ hart. say_same (row_of a hart) (m hart) })

pub adds_on : (a : Edges) (m : ℕ → ℕ) (b : Edges) (n : ℕ → ℕ) (c : Edges) → ((hart : ℕ) → m hart ≤ n hart) → AddsLater a m b → AddsLater b n c → AddsLater a m c
adds_on a m b n c le p q =
    record { start = q.start ∙ p.start; rows = λ hart. say_on (row_of a hart) (row_of b hart) (row_of c hart) (m hart) (n hart) (le hart) (p.rows hart) (q.rows hart) }

-- where one of its hart's settled count or later is added
module _ (a : Edges) (m : ℕ → ℕ) (e : Edge) (b : Edges) (own : AreOwn a) (later : m e.hart ≤ e.at) where
  pub own_after : IsAdded a e b → AreOwn b
  own_after (Stays said same) hart = subst (λ (x : Edges). AreOwn x) (sym same) own hart
  own_after (Enters unsaid put) hart = elim (cases_eq hart e.hart) [
    | inl same ↦
        subst (λ (h : ℕ). All (λ x. x.hart ≡ h) (row_of b h)) (sym same)
        (all_put (λ x. x.hart ≡ e.hart) (row_of a e.hart) e (row_of b e.hart) put.row refl (own e.hart))
    | inr other ↦ subst (λ (row : List Edge). All (λ x. x.hart ≡ hart) row) (sym (put.others hart other)) (own hart)
  ]

  pub added_later : IsAdded a e b → AddsLater a m b
  added_later (Stays said same) = adds_nothing a m b same
  added_later (Enters unsaid put) =
      record {
        start = put.start;
        rows = λ hart. elim (cases_eq hart e.hart) [
          | inl same ↦
              subst (λ (h : ℕ). SayOn (row_of a h) (m h) (row_of b h)) (sym same)
              (say_put (row_of a e.hart) e (row_of b e.hart) put.row (m e.hart) later
              (λ x there twin. elim (cases_lt e.after x.after) [
                | inr le ↦ le
                | inl lt ↦
                    absurd (unsaid (inr (
                      edge_as x,
                      to_edges a.rows e.hart x there,
                      All-contains (λ y. y.hart ≡ e.hart) (row_of a e.hart) x (own e.hart) there,
                      twin.other,
                      le_of_eq twin.at,
                      le_of_lt lt,
                    )))
              ]))
          | inr other ↦
              subst (λ (row : List Edge). SayOn (row_of a hart) (m hart) row) (sym (put.others hart other)) (say_same (row_of a hart) (m hart))
        ];
      }

pub all_added_later : (a : Edges) (m : ℕ → ℕ) (found : List Edge) (b : Edges) → AreOwn a → AreAdded a found b → All (λ e. m e.hart ≤ e.at) found → AddsLater a m b
all_added_later a m [] b own same later = adds_nothing a m b same
all_added_later a m (e ∷ found) b own (now, one, more) later =
    let here : m e.hart ≤ e.at = All-head (λ (x : Edge). m x.hart ≤ x.at) e found later in
    adds_on a m now m b (λ hart. le_refl (m hart)) (added_later a m e now own here one)
    (all_added_later now m found b (own_after a m e now own here one) more (All-tail (λ (x : Edge). m x.hart ≤ x.at) e found later))
