-- Why no cut is above these counts.
use Rattle.std.proofs.Common.{◌≡◌, inl, inr, ℕ, suc, ◌+◌, ◌<◌, ◌≤◌, ◌^◌, List, Contains, length, set, Option, Some, None, refl, sym, ap, subst, ◌∙◌, arith, le_trans}
use Rattle.std.proofs.Common.{Bool, le_of_eq, true, false, get_or, All, length-set, get_or-set_same, get_or-set_other}
use Rattle.std.specs.Prelude.{slice_index_or}
use Rattle.std.proofs.lemmas.Bool.{cases_lt, cases_eq}
use Rattle.std.proofs.lemmas.List.{get_or_past}
use Rattle.ft_types.specs.Counts.{count_at}
use Rattle.ft_types.specs.declared.names.TheConstants.{HART_LIMIT, HART_ROW}
use Rattle.edge_log.specs.declared.Edge.{Edge}
use Rattle.fragment_codec.specs.Rules.{FragmentParts, OpeningParts}
use Rattle.log_join.specs.Cells.{One}
use Rattle.log_join.specs.Stores.{StoreView, IsStore, opening_at}
use Rattle.closed_cut.specs.Position.{pieces_of, Goes}
use Rattle.tracked_position.specs.machinery.Cuts.{edges_in, Meets, GoesOver, ComeTo, IsLimited, IsCutOf, IsHigh, IsGreatestCut}
use Rattle.tracked_position.specs.machinery.Walks.{cursor_at, GoesTo, IsAhead, IsMetFrom, IsOver, IsPassed, AreOver}
use Rattle.tracked_position.specs.declared.walk.Cursor.{Cursor}
use Rattle.tracked_position.specs.declared.walk.Ahead.{Ahead}
use Rattle.tracked_position.specs.declared.walk.Ahead.TheVariants.{Unseen}
use Rattle.interleaving.specs.Lists as theory
use Rattle.ft_types.specs.Guests.{GuestParts}
use Rattle.tracked_position.proofs.Stops.{over_on, over_more}
use Rattle.tracked_position.proofs.Walks.{goes_nowhere, goes_over_one, goes_seen}
use Rattle.tracked_position.specs.machinery.Waits.{IsHeld, Free, Behind, IsWaiting, room, limited_to}
use Rattle.std.specs.Option.{option_map}
use Rattle.tracked_position.proofs.Cuts.{own, rises, no_pieces, set_limited, limited_is, limited_le, limited_bound}

module _ (s : StoreView) (rules : IsStore s) (term : ℕ) (base : ℕ → ℕ) (next : Option (ℕ → ℕ)) where
  -- a hart that the guest has not stands at its base
  pub past_harts : (cut other : ℕ → ℕ) → IsCutOf s term base next cut → IsCutOf s term base next other → (hart : ℕ) → s.guest.harts ≤ hart →
      other hart ≤ cut hart
  past_harts cut other is_cut is hart over =
      let w = is.within hart in
      let end : w.end ≡ base hart = no_pieces s rules term hart over (base hart) w.place w.end w.goes in
      let far : other hart ≤ w.end = w.far in
      let above : base hart ≤ cut hart = is_cut.above hart in
      omega arith

  module _ (cut : ℕ → ℕ) (waits : List (Option ℕ)) (all : (hart : ℕ) → IsWaiting s term base next cut hart (slice_index_or waits hart None))
      (other : ℕ → ℕ) (is : IsCutOf s term base next other) where
    free : (hart : ℕ) (w : Option ℕ) → w ≡ None → IsWaiting s term base next cut hart w → other hart ≤ cut hart
    free hart None e waiting = waiting other is
    free hart (Some o) e waiting = cc

    behind : (hart o : ℕ) (w : Option ℕ) → w ≡ Some o → other o ≤ cut o → IsWaiting s term base next cut hart w → other hart ≤ cut hart
    behind hart o None e le waiting = cc
    behind hart o (Some p) e le waiting =
        elim (cases_lt (cut hart) (other hart)) [
          | inl more ↦
              let x = waiting.edge in
              let own_is : other x.hart ≡ other hart = ap other (own s rules term hart waiting.place waiting.piece x waiting.over.one waiting.has).own in
              let here_is : x.at ≤ cut hart = waiting.here in
              let met : x.after ≤ other x.other = is.closed hart waiting.place waiting.piece x waiting.over waiting.has (omega arith) in
              let same : p ≡ o = cc in
              let for : other x.other ≡ other o = ap other (waiting.for ∙ same) in
              let at : cut p ≡ cut o = ap cut same in
              let unmet : cut p < x.after = waiting.unmet in
              absurd (omega arith)
          | inr fine ↦ fine
        ]

    pub held_below : (hart : ℕ) → IsHeld waits hart → other hart ≤ cut hart
    held_below hart (Free e) = free hart (slice_index_or waits hart None) e (all hart)
    held_below hart (Behind o e held) = behind hart o (slice_index_or waits hart None) e (held_below o held) (all hart)

  -- a hart that the guest has not has gone as far as it goes
  pub none_waiting : (cut : ℕ → ℕ) (hart : ℕ) (w : Option ℕ) → IsCutOf s term base next cut → s.guest.harts ≤ hart → w ≡ None →
      IsWaiting s term base next cut hart w
  none_waiting cut hart None is over e = λ other other_is. past_harts cut other is other_is hart over
  none_waiting cut hart (Some o) is over e = cc

  -- where the edges behind the cursors forbid nothing, and those before are met by a cut, the greatest cut is there
  pub lowest : (cut high : ℕ → ℕ) (places : ℕ → ℕ) (harts : ℕ) → harts ≡ s.guest.harts → IsCutOf s term base next cut → IsHigh s term base next high →
      ((hart place : ℕ) (x : FragmentParts) (e : Edge) → hart < harts → place < places hart → pieces_of s term hart place ≡ One x → Contains
      (edges_in x) e → Meets cut e) →
      ((hart : ℕ) → hart < harts → IsMetFrom s term base high hart (places hart)) → IsGreatestCut s term base next high
  lowest cut high places harts many is at before behind =
      record {
        cut_of =
            record {
              above = λ h. le_trans (is.above h) (at.bound cut is h);
              within = at.come;
              before_next = at.limited;
              closed =
                  λ h place x e over has less.
                  let own_is = (own s rules term h place x e over.one has).own in
                  let there : h < harts = below_harts h place x over in
                  elim (cases_lt place (places h)) [
                    | inl passed ↦ le_trans (before h place x e there passed over.one has) (at.bound cut is e.other)
                    | inr from ↦ behind h there place x e from over has (subst (λ n. e.at < high n) own_is less)
                  ];
            };
        bound = at.bound;
      }
    where
      below_harts : (h place : ℕ) (x : FragmentParts) → GoesOver (pieces_of s term h) (base h) place x → h < harts
      below_harts h place x over =
          elim (cases_lt h harts) [
            | inl less ↦ less
            | inr over_harts ↦
                let end : x.to ≡ base h = no_pieces s rules term h (omega arith) (base h) (suc place) x.to (x, over.goes, over.one, refl) in
                let start : x.from ≡ base h = no_pieces s rules term h (omega arith) (base h) place x.from over.goes in
                let less : x.from < x.to = rises s rules term h place x over.one in
                absurd (omega arith)
          ]

-- ---- the ends of the pieces

-- the ends of the first harts are found
pub record AreEnds (s : StoreView) (term : ℕ) (base : ℕ → ℕ) (next : Option (ℕ → ℕ)) (cut ends : List ℕ) (number : ℕ) : Type 0 where
  pub harts : length ends ≡ length cut
  pub come : ComeTo s term base (count_at ends)
  pub limited : IsLimited next (count_at ends)
  pub last : (hart : ℕ) → hart < number → (other : ℕ → ℕ) → IsCutOf s term base next other → other hart ≤ count_at ends hart
  pub rest : (hart : ℕ) → number ≤ hart → count_at ends hart ≡ count_at cut hart

pub no_ends : (s : StoreView) (term : ℕ) (base : ℕ → ℕ) (next : Option (ℕ → ℕ)) (cut : List ℕ) → IsCutOf s term base next (count_at cut) →
    AreEnds s term base next cut cut 0
no_ends s term base next cut is =
    record { harts = refl; come = is.within; limited = is.before_next; last = λ h less. absurd (omega arith); rest = λ h le. refl }

pub next_end : (s : StoreView) (term : ℕ) (base : ℕ → ℕ) (limit : Option (List ℕ)) (cut ends : List ℕ) (number place end : ℕ) → number < length cut →
    AreEnds s term base (option_map count_at limit) cut ends number → Goes (pieces_of s term number) (base number) place end →
    ((p e : ℕ) → Goes (pieces_of s term number) (base number) p e → e ≤ end) →
    AreEnds s term base (option_map count_at limit) cut (set ends number (limited_to limit number end)) (number + 1)
next_end s term base limit cut ends number place end less so_far goes last =
    let many : length ends ≡ length cut = so_far.harts in
    let there : number < length ends = omega arith in
    let to = limited_to limit number end in
    record {
      harts = length-set ends number to ∙ so_far.harts;
      come =
          λ h.
          elim (cases_eq h number) [
            | inl same ↦
                rw (same, get_or-set_same ends number to 0 there)
                (record { place = place; end = end; goes = goes; far = limited_le limit number end })
            | inr ne ↦ rw (get_or-set_other ends number h to 0 ne) (so_far.come h)
          ];
      limited = set_limited (option_map count_at limit) ends number to there so_far.limited (limited_is limit number end);
      last =
          λ h under other is.
          elim (cases_eq h number) [
            | inl same ↦
                rw (same, get_or-set_same ends number to 0 there)
                (limited_bound limit other number end is.before_next (let w = is.within number in le_trans w.far (last w.place w.end w.goes)))
            | inr ne ↦ rw (get_or-set_other ends number h to 0 ne) (so_far.last h (omega arith) other is)
          ];
      rest = λ h le. let ne : h ≡ number → ⊥ = λ (e : h ≡ number). absurd (omega arith) in get_or-set_other ends number h to 0 ne ∙ so_far.rest h (omega arith);
    }

pub ends_high : (s : StoreView) → IsStore s → (term : ℕ) (base : ℕ → ℕ) (next : Option (ℕ → ℕ)) (cut ends : List ℕ) (number : ℕ) →
    number ≡ s.guest.harts → IsCutOf s term base next (count_at cut) → AreEnds s term base next cut ends number → IsHigh s term base next (count_at ends)
ends_high s rules term base next cut ends number many is all =
    record {
      come = all.come;
      limited = all.limited;
      bound =
          λ other other_is h.
          elim (cases_lt h number) [
            | inl less ↦ all.last h less other other_is
            | inr over ↦
                let below : other h ≤ count_at cut h = past_harts s rules term base next (count_at cut) other is other_is h (omega arith) in
                let same : count_at ends h ≡ count_at cut h = all.rest h over in
                omega arith
          ];
    }

-- ---- flags of those that are held

abbrev pub AreHeld : List Bool → List (Option ℕ) → Type 0
AreHeld held waits = (hart : ℕ) → get_or held hart false ≡ true → IsHeld waits hart

pub set_held : (held : List Bool) (waits : List (Option ℕ)) (at : ℕ) (flag : Bool) → AreHeld held waits → (flag ≡ true → IsHeld waits at) →
    AreHeld (set held at flag) waits
set_held held waits at flag are here_is hart is =
    elim (cases_eq hart at) [
      | inl same ↦
          elim (cases_lt at (length held)) [
            | inl less ↦ subst (IsHeld waits) (sym same) (here_is (sym (ap (λ n. get_or (set held at flag) n false) same ∙ get_or-set_same held at
                flag false less) ∙ is))
            | inr over ↦
                let none : get_or (set held at flag) hart false ≡ false =
                get_or_past (set held at flag) hart false (let l : length (set held at flag) ≡ length held = length-set held at flag in omega arith) in
                cc
          ]
      | inr ne ↦ are hart (sym (get_or-set_other held at hart flag false ne) ∙ is)
    ]

pub held_all : (held : List Bool) (waits : List (Option ℕ)) → length held ≡ HART_ROW → length waits ≡ HART_ROW → All (λ flag. flag ≡ true) held → AreHeld held waits →
    (hart : ℕ) → IsHeld waits hart
held_all held waits wide many all are hart =
    elim (cases_lt hart HART_ROW) [
      | inl less ↦ are hart (all hart false (omega arith))
      | inr over ↦ Free (get_or_past waits hart None (omega arith))
    ]

-- ---- cursors

pub set_over : (s : StoreView) (term : ℕ) (base cut more : ℕ → ℕ) (cursors : List Cursor) (at : ℕ) (cursor : Cursor) → at < length cursors →
    theory.IsWithin cut more → AreOver s term base cut cursors → IsOver (pieces_of s term at) (base at) more cursor →
    AreOver s term base more (set cursors at cursor)
set_over s term base cut more cursors at cursor there within are over h less =
    elim (cases_eq h at) [
      | inl same ↦ rw (same, get_or-set_same cursors at cursor (record { place = 0; end = 0; ahead = Unseen }) there) over
      | inr ne ↦
          rw (get_or-set_other cursors at h cursor (record { place = 0; end = 0; ahead = Unseen }) ne)
          (over_more (pieces_of s term h) (base h) cut more (cursor_at cursors h) within (are h less))
    ]

-- nothing is seen ahead of one any more
pub unseen_over : (s : StoreView) (term : ℕ) (base cut : ℕ → ℕ) (cursors : List Cursor) (at : ℕ) → at < HART_LIMIT → length cursors ≡ HART_ROW →
    AreOver s term base cut cursors →
    AreOver s term base cut (set cursors at (record { place = (cursor_at cursors at).place; end = (cursor_at cursors at).end; ahead = Unseen }))
unseen_over s term base cut cursors at less wide are =
    let over = are at less in
    set_over s term base cut cut cursors at (record { place = (cursor_at cursors at).place; end = (cursor_at cursors at).end; ahead = Unseen }) (omega arith)
    (λ h. le_of_eq refl) are (record { goes = over.goes; met = over.met; seen = tt })

-- one goes past a piece whose edges are met
pub passed_over : (s : StoreView) → IsStore s → (term : ℕ) (base cut : ℕ → ℕ) (cursors : List Cursor) (at to : ℕ) (piece : FragmentParts) → at < HART_LIMIT →
    length cursors ≡ HART_ROW → IsPassed (pieces_of s term at) cut (cursor_at cursors at).place (cursor_at cursors at).end to true piece → (ahead : Ahead) →
    IsAhead (pieces_of s term at) cut (record { place = (cursor_at cursors at).place + 1; end = to; ahead = ahead }) ahead → AreOver s term base cut cursors →
    AreOver s term base cut (set cursors at (record { place = (cursor_at cursors at).place + 1; end = to; ahead = ahead }))
passed_over s rules term base cut cursors at to piece less wide passed ahead seen are =
    let here = cursor_at cursors at in
    let pieces = pieces_of s term at in
    let goes = goes_over_one pieces cut (2 ^ 48) here here piece (goes_nowhere pieces cut (2 ^ 48) here) passed.one passed.from_is (passed.meets refl) in
    let to_is : piece.to ≡ to = passed.to_is in
    set_over s term base cut cut cursors at (record { place = here.place + 1; end = to; ahead = ahead }) (omega arith) (λ h. le_of_eq refl) are
    (over_on pieces (base at) cut (2 ^ 48) here (record { place = here.place + 1; end = to; ahead = ahead })
    (λ place x e one has. (own s rules term at place x e one has).count) (are at less)
    (subst (λ n. GoesTo pieces cut (2 ^ 48) here (record { place = here.place + 1; end = n; ahead = ahead })) to_is
    (goes_seen pieces cut (record { place = here.place + 1; end = piece.to; ahead = Unseen }) here ahead goes)) seen)

pub more_over : (s : StoreView) (term : ℕ) (base cut more : ℕ → ℕ) (cursors : List Cursor) → theory.IsWithin cut more → AreOver s term base cut cursors →
    AreOver s term base more cursors
more_over s term base cut more cursors within are h less =
    over_more (pieces_of s term h) (base h) cut more (cursor_at cursors h) within (are h less)

-- ---- what a round did

pub room_le : (rose : Bool) (old new : List ℕ) → (rose ≡ false → new ≡ old) → (rose ≡ true → room new < room old) → room new ≤ room old
room_le true old new same less = let l : room new < room old = less refl in omega arith
room_le false old new same less = le_of_eq (ap room (same refl))

-- a guest has at most HART_LIMIT harts
pub few_harts : (s : StoreView) → IsStore s → (o : OpeningParts) → opening_at s o.term ≡ One o → s.guest.harts ≤ HART_LIMIT
few_harts s rules o opens =
    let fits = rules.openings o.term o opens in
    let limit : o.guest.harts ≤ HART_LIMIT = fits.rules.guest.limit in
    let same : o.guest.harts ≡ s.guest.harts = ap (λ (g : GuestParts). g.harts) fits.same_guest in omega arith
