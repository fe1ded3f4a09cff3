-- What is kept of a store and its position, when a frame comes.
use Rattle.std.proofs.Common.{◌≡◌, ◌≢◌, inl, inr, ℕ, zero, suc, ◌<◌, List, length, replicate, Option, refl, sym, ap, subst, ◌∙◌}
use Rattle.std.proofs.Common.{arith}
use Rattle.std.proofs.lemmas.Bool.{cases_lt, cases_eq}
use Rattle.std.proofs.lemmas.List.{length-replicate}
use Rattle.std.specs.FinMap as finite
use Rattle.std.specs.Ordering.{nat_cmp}
use Rattle.ft_types.specs.Counts.{count_at}
use Rattle.ft_types.specs.Guests.{GuestParts}
use Rattle.ft_types.specs.declared.names.TheConstants.{HART_LIMIT}
use Rattle.fragment_codec.specs.declared.types.Key.{Key}
use Rattle.fragment_codec.specs.Rules.{FragmentParts, OpeningParts}
use Rattle.log_join.specs.Cells.{Cell, Absent, One, cell_of}
use Rattle.log_join.specs.Stores.{StoreView, key_cmp, opening_at, fragment_at, IsStore, nothing}
use Rattle.closed_cut.specs.Chain.{Sound}
use Rattle.closed_cut.specs.Position.{base_of, pieces_of, Goes, InChain, Stops, IsPosition, NoTop}
use Rattle.ft_types.specs.declared.position.Position.{Position}
use Rattle.closed_cut.proofs.Chains.{sound_opens, zero_row}
use Rattle.tracked_position.specs.declared.walk.Cursor.{Cursor}
use Rattle.tracked_position.specs.declared.walk.Ahead.TheVariants.{End}
use Rattle.tracked_position.specs.machinery.Cuts.{IsCutOf}
use Rattle.std.specs.Option.{option_map}
use Rattle.tracked_position.specs.machinery.Legs.{IsNext}
use Rattle.tracked_position.specs.machinery.Walks.{cursor_at, EndsAt, IsAhead, IsOver, AreOver, IsApart}
use Rattle.tracked_position.specs.machinery.Keeping.{IsTracked}
use Rattle.tracked_position.proofs.Cuts.{over_of, goes_same}
use Rattle.tracked_position.proofs.Growth.{HasOneMore, GrowsAt, goes_grown, cut_grown, over_grown, to_greatest}
use Rattle.tracked_position.proofs.Positions.{here_reached, here_chain, here_sound, next_over, chain_grown, sound_grown, no_more, position_same}
use Rattle.tracked_position.proofs.Positions.{position_here}

-- ---- nothing came

not_one : {X : Type 0} (c : Cell X) (x : X) → c ≡ Absent → c ≡ One x → ⊥
not_one c x absent one = cc

pub nothing_tracked : (guest : GuestParts) (cursors : List Cursor) →
    IsTracked (nothing guest) (record { term = 0; counts = replicate guest.harts 0; top = 0 }) cursors
nothing_tracked guest cursors =
    record {
      rules =
          record {
            openings = λ term o one. absurd (not_one (opening_at (nothing guest) term) o (none term) one);
            fragments = λ key f one. absurd (not_one (fragment_at (nothing guest) key) f (ap cell_of (finite.get-empty key_cmp key)) one);
          };
      position =
          NoTop
          (λ term sound.
          let (o, one) = sound_opens (nothing guest) term sound in not_one (opening_at (nothing guest) term) o (none term) one) refl
          (λ h. zero_row guest.harts h) refl;
      harts = let zero : ℕ = 0 in length-replicate guest.harts zero;
      over = λ o one. absurd (not_one (opening_at (nothing guest) 0) o (none 0) one);
    }
  where
    none : (term : ℕ) → opening_at (nothing guest) term ≡ Absent
    none term = ap cell_of (finite.get-empty nat_cmp term)

-- ---- a piece came

-- a position that was found anew
pub found_tracked : (s : StoreView) (p : Position) (cursors : List Cursor) → IsStore s → IsPosition s p → length p.counts ≡ s.guest.harts →
    ((o : OpeningParts) (cut : ℕ → ℕ) → opening_at s p.term ≡ One o → AreOver s p.term (base_of o) cut cursors) → IsTracked s p cursors
found_tracked s p cursors rules position harts over =
    record { rules = rules; position = position; harts = harts; over = λ o. over o (count_at p.counts) }

-- other cursors, which stand on all walks that those stood on
pub tracked_moved : (s : StoreView) (p : Position) (cursors moved : List Cursor) → ((store : StoreView) (term : ℕ) (base cut : ℕ → ℕ) →
    AreOver store term base cut cursors → AreOver store term base cut moved) → IsTracked s p cursors → IsTracked s p moved
tracked_moved s p cursors moved over is =
    record { rules = is.rules; position = is.position; harts = is.harts; over = λ o one. over s p.term (base_of o) (count_at p.counts) (is.over o one) }

module _ (old new : StoreView) (f : FragmentParts) (rules : IsStore old) (grown : IsStore new) (more : HasOneMore old new f) where
  grows : (term : ℕ) → GrowsAt old new term
  grows term hart place x = more.kept (record { term = term; hart = hart; place = place }) x

  abbrev key_at : ℕ → ℕ → ℕ → Key
  key_at term hart place = record { term = term; hart = hart; place = place }

  -- a walk that was seen to end
  ended : (term start h : ℕ) (cut : ℕ → ℕ) (at : Cursor) → IsOver (pieces_of old term h) start cut at → at.ahead ≡ End → EndsAt (pieces_of old term h) at
  ended term start h cut at over end = subst (IsAhead (pieces_of old term h) cut at) end over.seen

  -- ends still, where the piece does not begin there
  ends_still : (term h : ℕ) (cursors : List Cursor) → IsApart cursors f.key f.from → (cursor_at cursors h).ahead ≡ End →
      EndsAt (pieces_of old term h) (cursor_at cursors h) → EndsAt (pieces_of new term h) (cursor_at cursors h)
  ends_still term h cursors apart end ends piece one from =
      elim (more.back (key_at term h (cursor_at cursors h).place) piece one) [
        | inl before ↦ ends piece before from
        | inr (at, is) ↦
            let same : cursor_at cursors h ≡ cursor_at cursors f.key.hart = ap (λ (k : Key). cursor_at cursors k.hart) at in
            apart (ap (λ (c : Cursor). c.ahead) (sym same) ∙ end) (sym (ap (λ (k : Key). k.place) at) ∙ ap (λ (c : Cursor). c.place) same)
            (ap (λ (x : FragmentParts). x.from) (sym is) ∙ (from ∙ ap (λ (c : Cursor). c.end) same))
      ]

  -- the cursors stand where they stood
  pub over_more : (term : ℕ) (base cut : ℕ → ℕ) (cursors : List Cursor) → IsApart cursors f.key f.from → AreOver old term base cut cursors →
      AreOver new term base cut cursors
  over_more term base cut cursors apart are h less =
      over_grown old new grown term (grows term) h (base h) cut (cursor_at cursors h)
      (λ end. ends_still term h cursors apart end (ended term (base h) h cut (cursor_at cursors h) (are h less) end)) (are h less)

  -- no walk comes to where the piece begins, where that of its hart has ended elsewhere
  not_there : (term : ℕ) (base cut : ℕ → ℕ) (cursors : List Cursor) → f.key.hart < HART_LIMIT → IsApart cursors f.key f.from →
      (cursor_at cursors f.key.hart).ahead ≡ End → AreOver old term base cut cursors → (hart place : ℕ) →
      Goes (pieces_of old term hart) (base hart) place f.from → key_at term hart place ≡ f.key → ⊥
  not_there term base cut cursors below apart end are hart place goes at =
      let pieces = pieces_of old term hart in
      let c = cursor_at cursors hart in
      let here_is : hart ≡ f.key.hart = ap (λ (k : Key). k.hart) at in
      let same : c ≡ cursor_at cursors f.key.hart = ap (cursor_at cursors) here_is in
      let over : IsOver pieces (base hart) cut c = are hart (omega arith) in
      let ends : EndsAt pieces c = ended term (base hart) hart cut c over (ap (λ (c : Cursor). c.ahead) same ∙ end) in
      elim (cases_lt c.place place) [
        | inl past ↦
            let (y, o) = over_of pieces (base hart) place c.place f.from goes past in
            ends y o.one (goes_same pieces (base hart) c.place y.from c.end o.goes over.goes)
        | inr fine ↦
            elim (cases_eq place c.place) [
              | inl is ↦
                  apart end (sym (ap (λ (k : Key). k.place) at) ∙ (is ∙ ap (λ (c : Cursor). c.place) same))
                  (goes_same pieces (base hart) c.place f.from c.end (subst (λ n. Goes pieces (base hart) n f.from) is goes) over.goes ∙
                  ap (λ (c : Cursor). c.end) same)
              | inr ne ↦
                  let (y, o) = over_of pieces (base hart) c.place place c.end over.goes (omega arith) in
                  not_one (fragment_at old f.key) y more.fresh (ap (fragment_at old) (sym at) ∙ o.one)
            ]
      ]

  module _ (term : ℕ) (base : ℕ → ℕ) (none : (hart place : ℕ) → Goes (pieces_of old term hart) (base hart) place f.from → key_at term hart place ≡ f.key → ⊥) where
    -- each walk was one before
    goes_back : (hart place end : ℕ) → Goes (pieces_of new term hart) (base hart) place end → Goes (pieces_of old term hart) (base hart) place end
    goes_back hart zero end goes = goes
    goes_back hart (suc place) end (x, g, one, is) =
        let before : Goes (pieces_of old term hart) (base hart) place x.from = goes_back hart place x.from g in
        elim (more.back (key_at term hart place) x one) [
          | inl there ↦ (x, before, there, is)
          | inr (at, same) ↦
              absurd (none hart place (subst (λ (y : FragmentParts). Goes (pieces_of old term hart) (base hart) place y.from) same before) at)
        ]

    -- and so was each cut
    cut_back : (next : Option (ℕ → ℕ)) (cut : ℕ → ℕ) → IsCutOf new term base next cut → IsCutOf old term base next cut
    cut_back next cut is =
        record {
          above = is.above;
          within =
              λ h.
              let w = is.within h in
              record {
                place = w.place;
                end = w.end;
                goes = goes_back h w.place w.end w.goes;
                far = w.far;
              };
          before_next = is.before_next;
          closed =
              λ h place x e over has less.
              is.closed h place x e
              (record {
                goes = goes_grown (pieces_of old term h) (pieces_of new term h) (grows term h) (base h) place x.from over.goes;
                one = grows term h place x over.one;
              }) has less;
        }

  tracked_same : (p : Position) (cursors : List Cursor) → IsTracked old p cursors → IsPosition new p →
      ((o : OpeningParts) → opening_at old p.term ≡ One o → AreOver new p.term (base_of o) (count_at p.counts) cursors) → IsTracked new p cursors
  tracked_same p cursors is position over =
      record {
        rules = grown;
        position = position;
        harts = is.harts ∙ ap (λ (g : GuestParts). g.harts) (sym more.guest);
        over = λ o one. over o (sym (more.openings p.term) ∙ one);
      }

  -- a piece that begins elsewhere than where the walk over its hart has ended
  pub tracked_apart : (p : Position) (cursors : List Cursor) → f.key.hart < HART_LIMIT → IsApart cursors f.key f.from →
      (cursor_at cursors f.key.hart).ahead ≡ End → IsTracked old p cursors → IsTracked new p cursors
  tracked_apart p cursors below apart end is =
      tracked_same p cursors is
      (position_same old new rules grown more.openings more.kept p
      (λ o one.
      cut_back p.term (base_of o) (not_there p.term (base_of o) (count_at p.counts) cursors below apart end (is.over o one))) is.position)
      (λ o one. over_more p.term (base_of o) (count_at p.counts) cursors apart (is.over o one))

  -- a piece of another term
  pub tracked_elsewhere : (p : Position) (cursors : List Cursor) → f.key.term ≢ p.term → IsTracked old p cursors → IsTracked new p cursors
  tracked_elsewhere p cursors elsewhere is =
      tracked_same p cursors is
      (position_same old new rules grown more.openings more.kept p (no_more old new rules grown more.openings more.kept p.term back) is.position)
      (λ o one h less.
      let over = is.over o one h less in
      over_grown old new grown p.term (grows p.term) h (base_of o h) (count_at p.counts) (cursor_at cursors h)
      (λ end piece there from.
      ended p.term (base_of o h) h (count_at p.counts) (cursor_at cursors h) over end piece (back h (cursor_at cursors h).place piece there) from) over)
    where
      back : GrowsAt new old p.term
      back hart place x one =
          let key : Key = record { term = p.term; hart = hart; place = place } in
          sym (more.others key (λ at. elsewhere (ap (λ (k : Key). k.term) (sym at)))) ∙ one

  -- what the position's term reached is a cut of it
  pub cut_here : (p : Position) (o : OpeningParts) → IsPosition old p → opening_at old p.term ≡ One o → (limit : Option (List ℕ)) →
      IsNext new p.top p.term limit → IsCutOf new p.term (base_of o) (option_map count_at limit) (count_at p.counts)
  cut_here p o is one limit next =
      cut_grown old new grown p.term (grows p.term) (base_of o) (option_map count_at limit) (count_at p.counts)
      (to_greatest old rules p.term (base_of o) (option_map count_at limit) (count_at p.counts)
      (here_reached old rules p is o one limit (next_over old new rules grown more.openings more.kept p.top p.term limit next))).cut_of

  pub chain_here : (p : Position) (o : OpeningParts) → IsPosition old p → opening_at old p.term ≡ One o → InChain new p.term p.top
  chain_here p o is one = chain_grown old new rules grown more.openings more.kept (here_chain old rules p is o one)

  pub sound_here : (p : Position) (o : OpeningParts) → IsPosition old p → opening_at old p.term ≡ One o → Sound new p.top
  sound_here p o is one = sound_grown old new rules grown more.openings more.kept (here_sound old rules p is o one)

  -- and where the walk goes on to is the position
  pub tracked_here : (p q : Position) (cursors new_cursors : List Cursor) (o : OpeningParts) → opening_at old p.term ≡ One o → q.top ≡ p.top →
      length q.counts ≡ length p.counts → Stops new p.top q.term (count_at q.counts) p.term →
      ((o : OpeningParts) → opening_at new q.term ≡ One o → AreOver new q.term (base_of o) (count_at q.counts) new_cursors) → IsTracked old p cursors →
      IsTracked new q new_cursors
  tracked_here p q cursors new_cursors o one top long stops over is =
      record {
        rules = grown;
        position = position_here old new rules grown more.openings more.kept p q top o one stops is.position;
        harts = long ∙ (is.harts ∙ ap (λ (g : GuestParts). g.harts) (sym more.guest));
        over = over;
      }
