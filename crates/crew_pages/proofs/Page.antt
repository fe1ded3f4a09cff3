-- One page's right, and how it covers the settled steps that used the page.
use Rattle.std.proofs.Common.{◌≡◌, ◌≢◌, ◌⊎◌, inl, inr, ℕ, ◌==◌, nat_lt, max, ◌<◌, ◌≤◌, Bool, true, false, if◌then◌else◌, List, Option, Some, None, Contains}
use Rattle.std.proofs.Common.{refl, sym, ap, subst, ◌∙◌, arith, le_trans, eq-eqb, eqb-true, true≢false, le_refl}
use Rattle.std.proofs.lemmas.Bool.{ltb-true, ltb-false, ne_eqb}
use Rattle.ft_types.specs.declared.names.Want.{Want}
use Rattle.ft_types.specs.declared.names.Want.TheVariants.{Read, Write}
use Rattle.ft_types.specs.declared.names.TheConstants.{HART_LIMIT}
use Rattle.interleaving.specs.Lists.{put}
use Rattle.interleaving.specs.Log.{Edge, Place, Before, Own, Across, Through}
use Rattle.interleaving.proofs.Put.{same_or_not, put_same, put_other}
use Rattle.crew_pages.specs.declared.right.LastWriter.{LastWriter}
use Rattle.crew_pages.specs.Rights.{Right, Shared, Exclusive, unused, nobody, holds, owns, IsFree, has_it, count_of, greater, after_count, IsOwed, given}
use Rattle.crew_pages.specs.Rights.{give_up, lower}
use Rattle.crew_pages.specs.Page.{since_of, at_of, IsAmong, Knows, Upto, Covered, LeftBy, OwnerKnows, IsRight}

pub before_more : (edges more : List Edge) → IsAmong edges more → {a b : Place} → Before edges a b → Before more a b
before_more edges more some (Own same less) = Own same less
before_more edges more some (Across e is_edge other less hart from) = Across e (some e is_edge) other less hart from
before_more edges more some (Through p q) = Through (before_more edges more some p) (before_more edges more some q)

pub knows_more : (edges more : List Edge) → IsAmong edges more → (h n k g m : ℕ) → n ≤ k → Knows edges h n g m → Knows more h k g m
knows_more edges more some h n k g m le s =
    record { edge = s.edge; is_edge = some s.edge s.is_edge; hart = s.hart; step = le_trans s.step le; other = s.other; count = s.count }

pub knows_before : (edges : List Edge) (h n g m k : ℕ) → Knows edges h n g m → k < m → {a : Place} → a.hart ≡ g → a.step ≡ k → {b : Place} → b.hart ≡ h →
    n ≤ b.step → Before edges a b
knows_before edges h n g m k s less is_hart is_step hart le =
    let c : m ≤ s.edge.count = s.count in
    let d : s.edge.step ≤ n = s.step in
    Across s.edge s.is_edge (is_hart ∙ sym s.other) (omega arith) (hart ∙ sym s.hart) (omega arith)

pub upto_before : (edges more : List Edge) → IsAmong edges more → (w : LastWriter) (a : Place) → Upto edges w a → (h n : ℕ) → Knows more h n w.hart w.count →
    {b : Place} → b.hart ≡ h → n ≤ b.step → Before more a b
upto_before edges more some w a (inl (hart, less)) h n s is_hart le = knows_before more h n w.hart w.count a.step s less hart refl is_hart le
upto_before edges more some w a (inr (k, less, before)) h n s is_hart le =
    Through (before_more edges more some before) (knows_before more h n w.hart w.count k s less refl refl is_hart le)

pub owns_holds : (r : Right) (h : ℕ) → owns r h ≡ true → holds r h ≡ true
owns_holds (Shared since readers left) h e = absurd (true≢false (sym e))
owns_holds (Exclusive owner at since left) h e = e

pub put_true : (f : ℕ → Bool) (h g : ℕ) → put f h false g ≡ true → (h ≢ g) × (f g ≡ true)
put_true f h g e =
    elim (same_or_not h g) [
      | inl same ↦ absurd (true≢false (sym e ∙ put_same f h g false same))
      | inr ne ↦ (ne, sym (put_other f h g false ne) ∙ e)
    ]

-- beside an owner no other hart holds a right
pub one_owner : (r : Right) (h g : ℕ) → owns r h ≡ true → holds r g ≡ true → h ≡ g
one_owner (Shared since readers left) h g o e = absurd (true≢false (sym o))
one_owner (Exclusive owner at since left) h g o e = sym (eqb-true owner h o) ∙ eqb-true owner g e

-- a right that nobody used
pub begins_ok : (crew : ℕ) (edges : List Edge) (settled : ℕ → ℕ) (own : ℕ → List Edge) (now late : ℕ → ℕ) (W T : Place → Type 0) →
    ((a : Place) → W a → ⊥) → ((a : Place) → T a → ⊥) → IsRight crew edges settled own now late W T unused
begins_ok crew edges settled own now late W T no_w no_t =
    record {
      wrote = λ a w. absurd (no_w a w);
      touched = λ a t. absurd (no_t a t);
      holders = λ h is. absurd (true≢false (sym is));
      since = λ w is. absurd (cc);
      left = λ g m is. absurd (cc);
      reader = λ h is. absurd (true≢false (sym is));
      owner = λ h is. absurd (true≢false (sym is));
    }

module _ (crew : ℕ) (edges : List Edge) (settled : ℕ → ℕ) (own : ℕ → List Edge) (now late : ℕ → ℕ) (W T : Place → Type 0) where
  -- more edges, higher counts, and more steps of harts that hold the right
  pub right_more : (more : List Edge) (settled₁ : ℕ → ℕ) (own₁ : ℕ → List Edge) (now₁ late₁ : ℕ → ℕ) (W₁ T₁ : Place → Type 0) (r : Right) →
      IsRight crew edges settled own now late W T r → IsAmong edges more → ((h : ℕ) → settled h ≤ settled₁ h) →
      ((h : ℕ) → holds r h ≡ true → IsAmong (own h) (own₁ h)) → ((h : ℕ) → holds r h ≡ true → now h ≤ now₁ h) → ((h : ℕ) → holds r h ≡ true →
      late h ≤ late₁ h) →
      ((a : Place) → W₁ a → W a ⊎ ((owns r a.hart ≡ true) × (at_of r ≤ a.step))) → ((a : Place) → T₁ a → T a ⊎ (holds r a.hart ≡ true)) →
      IsRight crew more settled₁ own₁ now₁ late₁ W₁ T₁ r
  right_more more settled₁ own₁ now₁ late₁ W₁ T₁ r ok some le some_own le_now le_late new_w new_t =
      record {
        wrote = λ a w. elim (new_w a w) [ inl old ↦ elim (ok.wrote a old) [ inl c ↦ inl (covered a c) | inr o ↦ inr o ] | inr new ↦ inr new ];
        touched =
            λ a t. elim (new_t a t) [ inl old ↦ elim (ok.touched a old) [ inl c ↦ inl (covered a c) | inr o ↦ inr o ] | inr new ↦ inr (inr new) ];
        holders = ok.holders;
        since = λ w is. let p = ok.since w is in (p.0, le_trans p.1 (le w.hart));
        left = λ g m is. let p = ok.left g m is in (p.0, le_trans p.1 (le g));
        reader =
            λ h is w since ne.
            knows_more (own h) (own₁ h) (some_own h is) h (now h) (now₁ h) w.hart w.count (le_now h is) (ok.reader h is w since ne);
        owner =
            λ h is.
            let o = ok.owner h is in
            let held = owns_holds r h is in
            record {
              at = le_trans o.at (le_late h held);
              since = λ w since ne. knows_more (own h) (own₁ h) (some_own h held) h (at_of r) (at_of r) w.hart w.count (le_refl (at_of r)) (o.since w since ne);
              left = λ g m left ne. knows_more (own h) (own₁ h) (some_own h held) h (at_of r) (at_of r) g m (le_refl (at_of r)) (o.left g m left ne);
            };
      }
    where
      covered : (a : Place) → Covered edges (since_of r) a → Covered more (since_of r) a
      covered a c = record {
        writer = c.writer;
        is = c.is;
        upto = elim c.upto [
          | inl x ↦ inl x
          | inr (k, less, b) ↦ inr (
            k,
            less,
            before_more edges more some b,
          )
        ];
      }

  abbrev IsOk : Right → Type 0
  IsOk r = IsRight crew edges settled own now late W T r

  -- the hart leaves, or goes on as a reader, at its settled count
  module _ (numbered : (a : Place) → T a → a.step < settled a.hart) (within : (a : Place) → W a → T a) (h : ℕ)
      (mine : (k g m : ℕ) → k < settled h → Knows (own h) h k g m → Knows edges h k g m) where
    leave_shared : (since : Option LastWriter) (readers : ℕ → Bool) (left : ℕ → Option ℕ) → IsOk (Shared since readers left) → readers h ≡ true →
        IsOk (Shared since (put readers h false) (put left h (Some (settled h))))
    leave_shared since readers left ok held =
        record {
          wrote = λ a w. elim (ok.wrote a w) [ inl c ↦ inl c | inr (o, le) ↦ absurd (true≢false (sym o)) ];
          touched =
              λ a t.
              elim (same_or_not h a.hart) [
                | inl same ↦
                    let less : a.step < settled a.hart = numbered a t in
                    inr (inl (settled h, put_same left h a.hart (Some (settled h)) same, subst (λ g. a.step < settled g) (sym same) less))
                | inr ne ↦
                    elim (ok.touched a t) [
                      | inl c ↦ inl c
                      | inr (inl (m, is, less)) ↦ inr (inl (m, put_other left h a.hart (Some (settled h)) ne ∙ is, less))
                      | inr (inr is) ↦ inr (inr (put_other readers h a.hart false ne ∙ is))
                    ]
              ];
          holders = λ g is. ok.holders g (put_true readers h g is).1;
          since = ok.since;
          left =
              λ g m is.
              elim (same_or_not h g) [
                | inl same ↦
                    let e : Some (settled h) ≡ Some m = sym (put_same left h g (Some (settled h)) same) ∙ is in
                    let f : settled h ≡ m = cc in
                    let k : settled h ≡ settled g = ap settled same in
                    (subst (λ g. g < crew) same (ok.holders h held), omega arith)
                | inr ne ↦ ok.left g m (sym (put_other left h g (Some (settled h)) ne) ∙ is)
              ];
          reader = λ g is. ok.reader g (put_true readers h g is).1;
          owner = λ g is. absurd (true≢false (sym is));
        }

    -- the owner has used the right
    used : (at : ℕ) (since : Option LastWriter) (left : ℕ → Option ℕ) → IsOk (Exclusive h at since left) → at < settled h →
        (readers : ℕ → Bool) → ((g : ℕ) → readers g ≡ true → h ≡ g) → IsOk (Shared (Some (record { hart = h; count = settled h })) readers nobody)
    used at since left ok less readers only =
        record {
          wrote =
              λ a w.
              elim (ok.wrote a w) [
                | inl c ↦ inl (from_old a c)
                | inr (o, le) ↦ inl (from_own a (sym (eqb-true h a.hart o)) (numbered a (within a w)))
              ];
          touched =
              λ a t.
              elim (ok.touched a t) [
                | inl c ↦ inl (from_old a c)
                | inr (inr is) ↦ inl (from_own a (sym (eqb-true h a.hart is)) (numbered a t))
                | inr (inl (m, is, lt)) ↦
                    inl
                    (elim (same_or_not a.hart h) [
                      | inl same ↦ from_own a same (numbered a t)
                      | inr ne ↦
                          let s = mine at a.hart m less (knows.left a.hart m is ne) in
                          record {
                            writer = last;
                            is = refl;
                            upto = inr (at, less, knows_before edges h at a.hart m a.step s lt refl refl refl (le_refl at));
                          }
                    ])
              ];
          holders = λ g is. subst (λ g. g < crew) (only g is) (ok.holders h (eq-eqb h h refl));
          since = λ w is. let e : last ≡ w = cc in subst (λ w. (w.hart < crew) × (w.count ≤ settled w.hart)) e (
            ok.holders h (eq-eqb h h refl),
            le_refl (settled h),
          );
          left = λ g m is. absurd (cc);
          reader = λ g is w since ne. let e : last ≡ w = cc in absurd (ne (sym (ap (λ w. w.hart) e) ∙ only g is));
          owner = λ g is. absurd (true≢false (sym is));
        }
      where
        last : LastWriter
        last = record { hart = h; count = settled h }

        knows : OwnerKnows (own h) (late h) h (Exclusive h at since left)
        knows = ok.owner h (eq-eqb h h refl)

        from_own : (a : Place) → a.hart ≡ h → a.step < settled a.hart → Covered edges (Some last) a
        from_own a is lt = record { writer = last; is = refl; upto = inl (is, subst (λ g. a.step < settled g) is lt) }

        from_old : (a : Place) → Covered edges since a → Covered edges (Some last) a
        from_old a c =
            record {
              writer = last;
              is = refl;
              upto =
                  elim (same_or_not c.writer.hart h) [
                    | inr ne ↦
                        inr (
                          at,
                          less,
                          upto_before edges edges (λ e is. is) c.writer a c.upto h at (mine at c.writer.hart c.writer.count less (knows.since c.writer c.is ne))
                              {b = record { hart = h; step = at }} refl (le_refl at),
                        )
                    | inl same ↦
                        let bound : c.writer.count ≤ settled h = subst (λ g. c.writer.count ≤ settled g) same (ok.since c.writer c.is).1 in
                        elim c.upto [
                          | inl (is, lt) ↦ inl (is ∙ same, le_trans lt bound)
                          | inr (k, lt, b) ↦ inr (k, le_trans lt bound, subst (λ g. Before edges a (record { hart = g; step = k })) same b)
                        ]
                  ];
            }

    -- the owner has taken no step since
    idle : (at : ℕ) (since : Option LastWriter) (left : ℕ → Option ℕ) → IsOk (Exclusive h at since left) → settled h ≤ at →
        (readers : ℕ → Bool) → ((g : ℕ) → readers g ≡ true → h ≡ g) → ((g : ℕ) → readers g ≡ true → late h ≤ now h) → (lefts : ℕ → Option ℕ) →
        ((g m : ℕ) → h ≢ g → left g ≡ Some m → lefts g ≡ Some m) → ((g m : ℕ) → lefts g ≡ Some m → (g < crew) × (m ≤ settled g)) →
        ((a : Place) → a.hart ≡ h → a.step < settled a.hart → LeftBy lefts a ⊎ (readers a.hart ≡ true)) → IsOk (Shared since readers lefts)
    idle at since left ok le readers only calm lefts old bounds own_steps =
        record {
          wrote =
              λ a w.
              elim (ok.wrote a w) [
                | inl c ↦ inl c
                | inr (o, late) ↦
                    let lt : a.step < settled a.hart = numbered a (within a w) in
                    let e : settled h ≡ settled a.hart = ap settled (eqb-true h a.hart o) in
                    absurd (omega arith)
              ];
          touched =
              λ a t.
              elim (same_or_not h a.hart) [
                | inl same ↦ inr (own_steps a (sym same) (numbered a t))
                | inr ne ↦
                    elim (ok.touched a t) [
                      | inl c ↦ inl c
                      | inr (inl (m, is, lt)) ↦ inr (inl (m, old a.hart m ne is, lt))
                      | inr (inr is) ↦ absurd (ne (eqb-true h a.hart is))
                    ]
              ];
          holders = λ g is. subst (λ g. g < crew) (only g is) (ok.holders h (eq-eqb h h refl));
          since = ok.since;
          left = bounds;
          reader =
              λ g is w since_is.
              subst (λ g. w.hart ≢ g → Knows (own g) g (now g) w.hart w.count) (only g is)
              (λ ne.
              knows_more (own h) (own h) (λ e is. is) h at (now h) w.hart w.count (le_trans (ok.owner h (eq-eqb h h refl)).at (calm g is))
              ((ok.owner h (eq-eqb h h refl)).since w since_is ne));
          owner = λ g is. absurd (true≢false (sym is));
        }

    leave_exclusive : (at : ℕ) (since : Option LastWriter) (left : ℕ → Option ℕ) → IsOk (Exclusive h at since left) →
        IsOk (give_up (Exclusive h at since left) h (settled h))
    leave_exclusive at since left ok = go (nat_lt at (settled h)) refl
      where
        go : (b : Bool) → nat_lt at (settled h) ≡ b →
            IsOk
            (if b
            then Shared (Some (record { hart = h; count = settled h })) (λ other. false) nobody
            else Shared since (λ other. false) (put left h (Some (settled h))))
        go true e = used at since left ok (ltb-true at (settled h) e) (λ g. false) (λ g is. absurd (true≢false (sym is)))
        go false e =
            idle at since left ok (ltb-false at (settled h) e) (λ g. false) (λ g is. absurd (true≢false (sym is))) (λ g is. absurd (true≢false (sym is)))
            (put left h (Some (settled h)))
            (λ g m ne is. put_other left h g (Some (settled h)) ne ∙ is)
            (λ g m is.
            elim (same_or_not h g) [
              | inl same ↦
                  let e : Some (settled h) ≡ Some m = sym (put_same left h g (Some (settled h)) same) ∙ is in
                  let f : settled h ≡ m = cc in
                  let k : settled h ≡ settled g = ap settled same in
                  (subst (λ g. g < crew) same (ok.holders h (eq-eqb h h refl)), omega arith)
              | inr ne ↦ ok.left g m (sym (put_other left h g (Some (settled h)) ne) ∙ is)
            ])
            (λ a is lt. inl (settled h, put_same left h a.hart (Some (settled h)) (sym is), subst (λ g. a.step < settled g) is lt))

    lower_exclusive : late h ≤ now h → (at : ℕ) (since : Option LastWriter) (left : ℕ → Option ℕ) → IsOk (Exclusive h at since left) →
        IsOk (lower (Exclusive h at since left) h (settled h))
    lower_exclusive calm at since left ok = go (nat_lt at (settled h)) refl
      where
        go : (b : Bool) → nat_lt at (settled h) ≡ b →
            IsOk
            (if b then Shared (Some (record { hart = h; count = settled h })) (λ other. h == other) nobody else Shared since (λ other. h == other) left)
        go true e = used at since left ok (ltb-true at (settled h) e) (λ g. h == g) (λ g is. eqb-true h g is)
        go false e =
            idle at since left ok (ltb-false at (settled h) e) (λ g. h == g) (λ g is. eqb-true h g is) (λ g is. calm) left (λ g m ne is. is) ok.left
            (λ a is lt. inr (eq-eqb h a.hart (sym is)))

    pub give_up_ok : (r : Right) → IsOk r → holds r h ≡ true → IsOk (give_up r h (settled h))
    give_up_ok (Shared since readers left) ok held = leave_shared since readers left ok held
    give_up_ok (Exclusive owner at since left) ok held =
        subst (λ o. IsOk (Exclusive o at since left) → IsOk (give_up (Exclusive o at since left) h (settled h))) (sym (eqb-true owner h held))
        (leave_exclusive at since left) ok

    pub lower_ok : late h ≤ now h → (r : Right) → IsOk r → owns r h ≡ true → IsOk (lower r h (settled h))
    lower_ok calm (Shared since readers left) ok held = ok
    lower_ok calm (Exclusive owner at since left) ok held =
        subst (λ o. IsOk (Exclusive o at since left) → IsOk (lower (Exclusive o at since left) h (settled h))) (sym (eqb-true owner h held))
        (lower_exclusive calm at since left) ok

pub count_of_writer : (since : Option LastWriter) (w : LastWriter) → since ≡ Some w → count_of since w.hart ≡ Some w.count
count_of_writer since w is = rw is (rw (eq-eqb w.hart w.hart refl) refl)

pub greater_left : (a b : Option ℕ) (m : ℕ) → a ≡ Some m → (k : ℕ) × (greater a b ≡ Some k) × (m ≤ k)
greater_left None b m is = absurd (cc)
greater_left (Some x) None m is = (m, is, le_refl m)
greater_left (Some x) (Some y) m is = let e : x ≡ m = cc in (max x y, refl, omega arith)

pub greater_right : (a b : Option ℕ) (m : ℕ) → b ≡ Some m → (k : ℕ) × (greater a b ≡ Some k) × (m ≤ k)
greater_right None b m is = (m, is, le_refl m)
greater_right (Some x) None m is = absurd (cc)
greater_right (Some x) (Some y) m is = let e : y ≡ m = cc in (max x y, refl, omega arith)

pub knows_less : (edges : List Edge) (h n g m k : ℕ) → m ≤ k → Knows edges h n g k → Knows edges h n g m
knows_less edges h n g m k le s = record { edge = s.edge; is_edge = s.is_edge; hart = s.hart; step = s.step; other = s.other; count = le_trans le s.count }

pub count_of_le : (since : Option LastWriter) (bound g m : ℕ) → ((w : LastWriter) → since ≡ Some w → w.hart ≡ g → w.count ≤ bound) → count_of since g ≡ Some m →
    m ≤ bound
count_of_le None bound g m le is = absurd (cc)
count_of_le (Some w) bound g m le is = go (w.hart == g) refl is
  where
    go : (b : Bool) → (w.hart == g) ≡ b → (if b then Some w.count else None) ≡ Some m → m ≤ bound
    go true e f = let same : w.count ≡ m = cc in let l : w.count ≤ bound = le w refl (eqb-true w.hart g e) in omega arith
    go false e f = absurd (cc)

pub greater_le : (a b : Option ℕ) (bound m : ℕ) → ((k : ℕ) → a ≡ Some k → k ≤ bound) → ((k : ℕ) → b ≡ Some k → k ≤ bound) → greater a b ≡ Some m → m ≤ bound
greater_le None b bound m p q is = q m is
greater_le (Some x) None bound m p q is = p m is
greater_le (Some x) (Some y) bound m p q is =
    let e : max x y ≡ m = cc in let l : x ≤ bound = p x refl in let k : y ≤ bound = q y refl in omega arith

of_writer : (since : Option LastWriter) (g m : ℕ) {bound : ℕ} → ((w : LastWriter) → since ≡ Some w → w.hart < bound) → count_of since g ≡ Some m → g < bound
of_writer None g m below is = absurd (cc)
of_writer (Some w) g m {bound} below is = go (w.hart == g) refl is
  where
    go : (b : Bool) → (w.hart == g) ≡ b → (if b then Some w.count else None) ≡ Some m → g < bound
    go true e f = subst (λ g. g < bound) (eqb-true w.hart g e) (below w refl)
    go false e f = absurd (cc)

greater_of : (a b : Option ℕ) (m : ℕ) → greater a b ≡ Some m → ((k : ℕ) × (a ≡ Some k)) ⊎ ((k : ℕ) × (b ≡ Some k))
greater_of None b m is = inr (m, is)
greater_of (Some x) b m is = inl (x, refl)

-- the edge that is owed to a hart
knows_by : (edges : List Edge) (r : Right) (h : ℕ) (want : Want) (n g m : ℕ) → has_it r h want ≡ false → after_count r want g ≡ Some m → g ≢ h → g < HART_LIMIT →
    ((e : Edge) → IsOwed r h want n e → Contains edges e) → Knows edges h n g m
knows_by edges r h want n g m lacks is ne small owed =
    record {
      edge = record { hart = h; step = n; other = g; count = m };
      is_edge = owed (record { hart = h; step = n; other = g; count = m }) (record {
        lacks = lacks;
        own = refl;
        at = refl;
        other = ne;
        is_hart = small;
        after = is;
      });
      hart = refl;
      step = le_refl n;
      other = refl;
      count = le_refl m;
    }

module _ (crew : ℕ) (edges : List Edge) (settled : ℕ → ℕ) (own : ℕ → List Edge) (now late : ℕ → ℕ) (W T : Place → Type 0) where
  pub after_le : (r : Right) → IsRight crew edges settled own now late W T r → (want : Want) (g m : ℕ) → after_count r want g ≡ Some m → m ≤ settled g
  after_le (Shared since readers left) ok Read g m is =
      count_of_le since (settled g) g m (λ w e same. subst (λ g. w.count ≤ settled g) same (ok.since w e).1) is
  after_le (Shared since readers left) ok Write g m is =
      greater_le (count_of since g) (left g) (settled g) m
      (λ k e. count_of_le since (settled g) g k (λ w e same. subst (λ g. w.count ≤ settled g) same (ok.since w e).1) e) (λ k e. (ok.left g k e).1) is
  after_le (Exclusive owner at since left) ok want g m is = absurd (cc)

  read_ok : (since : Option LastWriter) (readers : ℕ → Bool) (left : ℕ → Option ℕ) (h : ℕ) → IsRight crew edges settled own now late W T
      (Shared since readers left) →
      h < crew → ((w : LastWriter) → since ≡ Some w → w.hart ≢ h → Knows (own h) h (now h) w.hart w.count) →
      IsRight crew edges settled own now late W T (Shared since (put readers h true) left)
  read_ok since readers left h ok below knows =
      record {
        wrote = ok.wrote;
        touched = λ a t. elim (ok.touched a t) [ inl c ↦ inl c | inr (inl l) ↦ inr (inl l) | inr (inr is) ↦ inr (inr (still a.hart is)) ];
        holders = λ g is. elim (was g is) [ inl same ↦ subst (λ g. g < crew) same below | inr old ↦ ok.holders g old ];
        since = ok.since;
        left = ok.left;
        reader =
            λ g is w e ne.
            elim (was g is) [
              | inl same ↦ subst (λ g. w.hart ≢ g → Knows (own g) g (now g) w.hart w.count) same (knows w e) ne
              | inr old ↦ ok.reader g old w e ne
            ];
        owner = λ g is. absurd (true≢false (sym is));
      }
    where
      still : (g : ℕ) → readers g ≡ true → put readers h true g ≡ true
      still g is = elim (same_or_not h g) [ inl same ↦ put_same readers h g true same | inr ne ↦ put_other readers h g true ne ∙ is ]

      was : (g : ℕ) → put readers h true g ≡ true → (h ≡ g) ⊎ (readers g ≡ true)
      was g is = elim (same_or_not h g) [ inl same ↦ inl same | inr ne ↦ inr (sym (put_other readers h g true ne) ∙ is) ]

  write_ok : (since : Option LastWriter) (readers : ℕ → Bool) (left : ℕ → Option ℕ) (h n : ℕ) → IsRight crew edges settled own now late W T
      (Shared since readers left) →
      h < crew → n ≤ late h → ((g : ℕ) → readers g ≡ true → h ≡ g) →
      ((w : LastWriter) → since ≡ Some w → w.hart ≢ h → Knows (own h) h (now h) w.hart w.count) →
      ((w : LastWriter) → since ≡ Some w → w.hart ≢ h → Knows (own h) h n w.hart w.count) →
      ((g m : ℕ) → left g ≡ Some m → g ≢ h → Knows (own h) h n g m) → IsRight crew edges settled own now late W T (Exclusive h n since left)
  write_ok since readers left h n ok below bound alone knows_read knows_since knows_left =
      record {
        wrote = λ a w. elim (ok.wrote a w) [ inl c ↦ inl c | inr (o, le) ↦ absurd (true≢false (sym o)) ];
        touched =
            λ a t. elim (ok.touched a t) [ inl c ↦ inl c | inr (inl l) ↦ inr (inl l) | inr (inr is) ↦ inr (inr (eq-eqb h a.hart (alone a.hart is))) ];
        holders = λ g is. subst (λ g. g < crew) (eqb-true h g is) below;
        since = ok.since;
        left = ok.left;
        reader = λ g is w e. subst (λ g. w.hart ≢ g → Knows (own g) g (now g) w.hart w.count) (eqb-true h g is) (knows_read w e);
        owner =
            λ g is.
            subst (λ g. OwnerKnows (own g) (late g) g (Exclusive h n since left)) (eqb-true h g is)
            (record { at = bound; since = knows_since; left = knows_left });
      }

  after_other : (r : Right) → IsRight crew edges settled own now late W T r → (want : Want) (g m : ℕ) → after_count r want g ≡ Some m → g < crew
  after_other (Shared since readers left) ok Read g m is = of_writer since g m (λ w e. (ok.since w e).0) is
  after_other (Shared since readers left) ok Write g m is =
      elim (greater_of (count_of since g) (left g) m is) [
        | inl (k, e) ↦ of_writer since g k (λ w e. (ok.since w e).0) e
        | inr (k, e) ↦ (ok.left g k e).0
      ]
  after_other (Exclusive owner at since left) ok want g m is = absurd (cc)

  -- an edge that is owed asks for settled steps of a hart that there is
  pub owes_settled : (r : Right) → IsRight crew edges settled own now late W T r → (h : ℕ) (want : Want) (n : ℕ) (e : Edge) → IsOwed r h want n e →
      (e.other < crew) × (e.count ≤ settled e.other)
  owes_settled r ok h want n e owed = (after_other r ok want e.other e.count owed.after, after_le r ok want e.other e.count owed.after)

  -- a right that is given at count n covers what was before it by its edges
  pub given_ok : crew ≤ HART_LIMIT → (r : Right) (h : ℕ) (want : Want) (n : ℕ) → IsRight crew edges settled own now late W T r → h < crew →
      (owns r h ≡ false → owns (given r h want n) h ≡ true → n ≤ late h) → (holds r h ≡ false → now h ≡ n) → IsFree r h want →
      ((e : Edge) → IsOwed r h want n e → Contains (own h) e) → IsRight crew edges settled own now late W T (given r h want n)
  given_ok few (Exclusive owner at since left) h want n ok below bound first free owed = ok
  given_ok few (Shared since readers left) h Read n ok below bound first free owed = read_ok since readers left h ok below (knows (readers h) refl)
    where
      knows : (b : Bool) → readers h ≡ b → (w : LastWriter) → since ≡ Some w → w.hart ≢ h → Knows (own h) h (now h) w.hart w.count
      knows true held w is ne = ok.reader h held w is ne
      knows false held w is ne =
          subst (λ n. Knows (own h) h n w.hart w.count) (sym (first held))
          (knows_by (own h) (Shared since readers left) h Read n w.hart w.count held (count_of_writer since w is) ne (le_trans (ok.since w is).0 few) owed)
  given_ok few (Shared since readers left) h Write n ok below bound first free owed =
      write_ok since readers left h n ok below (bound refl (eq-eqb h h refl)) alone (knows_read (readers h) refl) knows_since knows_left
    where
      counts : ℕ → Option ℕ
      counts g = greater (count_of since g) (left g)

      knows : (g m : ℕ) → g < crew → g ≢ h → (k : ℕ) × (counts g ≡ Some k) × (m ≤ k) → Knows (own h) h n g m
      knows g m below_crew ne (k, is, le) =
          knows_less (own h) h n g m k le (knows_by (own h) (Shared since readers left) h Write n g k refl is ne (le_trans below_crew few) owed)

      knows_since : (w : LastWriter) → since ≡ Some w → w.hart ≢ h → Knows (own h) h n w.hart w.count
      knows_since w is ne = knows w.hart w.count (ok.since w is).0 ne (greater_left (count_of since w.hart) (left w.hart) w.count (count_of_writer since w is))

      knows_left : (g m : ℕ) → left g ≡ Some m → g ≢ h → Knows (own h) h n g m
      knows_left g m is ne = knows g m (ok.left g m is).0 ne (greater_right (count_of since g) (left g) m is)

      knows_read : (b : Bool) → readers h ≡ b → (w : LastWriter) → since ≡ Some w → w.hart ≢ h → Knows (own h) h (now h) w.hart w.count
      knows_read true held w is ne = ok.reader h held w is ne
      knows_read false held w is ne = subst (λ n. Knows (own h) h n w.hart w.count) (sym (first held)) (knows_since w is ne)

      alone : (g : ℕ) → readers g ≡ true → h ≡ g
      alone g is =
          elim (same_or_not h g) [
            | inl same ↦ same
            | inr ne ↦ absurd (true≢false (sym (rw (ne_eqb h g ne) is) ∙ free g))
          ]

-- a settled step that a right's holder conflicts with is before the holder's next
pub right_before : (crew : ℕ) (edges : List Edge) (settled : ℕ → ℕ) (own : ℕ → List Edge) (now late : ℕ → ℕ) (W T : Place → Type 0) (r : Right) →
    IsRight crew edges settled own now late W T r → (h : ℕ) → holds r h ≡ true → IsAmong edges (own h) → (a b : Place) → b.hart ≡ h → now h ≤ b.step →
    settled h ≤ b.step → a.hart ≢ h → T a → W a ⊎ ((owns r h ≡ true) × (at_of r ≤ b.step)) → Before (own h) a b
right_before crew edges settled own now late W T r ok h held some a b is_hart since_then after ne touched either =
    elim either [ inl w ↦ wrote w | inr (o, at) ↦ owned o at ]
  where
    covered : Covered edges (since_of r) a → Before (own h) a b
    covered c =
        elim (same_or_not c.writer.hart h) [
          | inr other ↦ upto_before edges (own h) some c.writer a c.upto h (now h) (ok.reader h held c.writer c.is other) is_hart since_then
          | inl same ↦
              elim c.upto [
                | inl (is, less) ↦ absurd (ne (is ∙ same))
                | inr (k, less, before) ↦
                    let bound : c.writer.count ≤ settled h = subst (λ g. c.writer.count ≤ settled g) same (ok.since c.writer c.is).1 in
                    Through (before_more edges (own h) some before) (Own (same ∙ sym is_hart) (omega arith))
              ]
        ]

    wrote : W a → Before (own h) a b
    wrote w = elim (ok.wrote a w) [ inl c ↦ covered c | inr (o, le) ↦ absurd (ne (one_owner r a.hart h o held)) ]

    owned : owns r h ≡ true → at_of r ≤ b.step → Before (own h) a b
    owned o at =
        elim (ok.touched a touched) [
          | inl c ↦ covered c
          | inr (inr is) ↦ absurd (ne (sym (one_owner r h a.hart o is)))
          | inr (inl (m, is, less)) ↦ knows_before (own h) h (at_of r) a.hart m a.step ((ok.owner h o).left a.hart m is ne) less refl refl is_hart at
        ]
