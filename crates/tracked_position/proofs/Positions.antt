-- Positions of a store that grew.
use Rattle.std.proofs.Common.{◌≡◌, ℕ, ◌<◌, ◌≤◌, List, Option, Some, None, sym, ap, subst, ◌∙◌, arith}
use Rattle.ft_types.specs.Counts.{count_at}
use Rattle.fragment_codec.specs.declared.types.Key.{Key}
use Rattle.fragment_codec.specs.Rules.{FragmentParts, OpeningParts}
use Rattle.log_join.specs.Cells.{One}
use Rattle.log_join.specs.Stores.{StoreView, IsStore, opening_at, fragment_at}
use Rattle.closed_cut.specs.Chain.{Sound, Root, Child, IsTop}
use Rattle.closed_cut.specs.Position.{base_of, IsReached, InChain, Self, Up, Stops, Last, Short, On, IsPosition, NoTop, Top}
use Rattle.ft_types.specs.declared.position.Position.{Position}
use Rattle.closed_cut.proofs.Walking.{one_same}
use Rattle.closed_cut.proofs.Chains.{term_above, chain_up}
use Rattle.std.specs.Option.{option_map}
use Rattle.tracked_position.specs.machinery.Cuts.{IsCutOf}
use Rattle.tracked_position.specs.machinery.Legs.{IsChild, IsNext}
use Rattle.tracked_position.proofs.Growth.{GrowsAt, cut_grown, to_greatest, from_greatest}

-- ---- chains

sound_over : (s n : StoreView) → ((term : ℕ) → opening_at n term ≡ opening_at s term) → {term : ℕ} → Sound s term → Sound n term
sound_over s n openings (Root {term = term} o one first) = Root o (openings term ∙ one) first
sound_over s n openings (Child {term = term} o p one sound two within) =
    Child o p (openings term ∙ one) (sound_over s n openings sound) (openings o.parent ∙ two) within

chain_over : (s n : StoreView) → ((term : ℕ) → opening_at n term ≡ opening_at s term) → {term top : ℕ} → InChain s term top → InChain n term top
chain_over s n openings (Self e) = Self e
chain_over s n openings (Up {top = top} o one chain) = Up o (openings top ∙ one) (chain_over s n openings chain)

chain_le : (s : StoreView) → IsStore s → (term : ℕ) {top : ℕ} → InChain s term top → term ≤ top
chain_le s rules term (Self e) = omega arith
chain_le s rules term (Up {top = top} o one chain) =
    let a : o.parent < top = (term_above s top o rules one).0 in
    let b : term ≤ o.parent = chain_le s rules term chain in omega arith

-- no term of the chain comes behind the top
no_next : (s : StoreView) → IsStore s → (now top next : ℕ) (n : OpeningParts) → now ≡ top → opening_at s next ≡ One n → n.parent ≡ now → InChain s next top → ⊥
no_next s rules now top next n is_top two parent chain =
    let a : n.parent < next = (term_above s next n rules two).0 in
    let b : next ≤ top = chain_le s rules next chain in absurd (omega arith)

-- no opening is of term 0
no_boot : (s : StoreView) → IsStore s → (term : ℕ) (o : OpeningParts) → opening_at s term ≡ One o → term ≡ 0 → ⊥
no_boot s rules term o one zero = let some : 0 < term = (term_above s term o rules one).1 in absurd (omega arith)

-- a hart of the chain has one child in it
one_child : (s : StoreView) → IsStore s → (c d : ℕ) (p q : OpeningParts) → opening_at s c ≡ One p → opening_at s d ≡ One q → p.parent ≡ q.parent → {top : ℕ} →
    InChain s c top → InChain s d top → c ≡ d
one_child s rules c d p q is_c is_d same (Self e) (Self f) = sym e ∙ f
one_child s rules c d p q is_c is_d same (Self {top = top} e) (Up o one chain) =
    let g : o ≡ p = one_same one (ap (opening_at s) e ∙ is_c) in
    let h : o.parent ≡ p.parent = ap (λ o. o.parent) g in
    let k : d ≤ o.parent = chain_le s rules d chain in
    let l : q.parent < d = (term_above s d q rules is_d).0 in
    absurd (omega arith)
one_child s rules c d p q is_c is_d same (Up {top = top} o one chain) (Self f) =
    let g : o ≡ q = one_same one (ap (opening_at s) f ∙ is_d) in
    let h : o.parent ≡ q.parent = ap (λ o. o.parent) g in
    let k : c ≤ o.parent = chain_le s rules c chain in
    let l : p.parent < c = (term_above s c p rules is_c).0 in
    absurd (omega arith)
one_child s rules c d p q is_c is_d same (Up o one chain) (Up n two other) =
    one_child s rules c d p q is_c is_d same chain (subst (λ (o : OpeningParts). InChain s d o.parent) (one_same two one) other)

pub same_child : (s : StoreView) → IsStore s → (top term : ℕ) (o p : OpeningParts) → IsChild s top term o → IsChild s top term p → o ≡ p
same_child s rules top term o p a b =
    let e : o.term ≡ p.term = one_child s rules o.term p.term o p a.opens b.opens (a.parent ∙ sym b.parent) a.in_chain b.in_chain in
    one_same a.opens (ap (opening_at s) e ∙ b.opens)

-- ---- what the position's term reaches

child_of : (s : StoreView) → IsStore s → (top term next : ℕ) (m : OpeningParts) → opening_at s next ≡ One m → m.parent ≡ term → InChain s next top →
    IsChild s top term m
child_of s rules top term next m two parent chain =
    let same : m.term ≡ next = (rules.openings next m two).same_term in
    record {
      opens = ap (opening_at s) same ∙ two;
      parent = parent;
      in_chain = subst (λ t. InChain s t top) (sym same) chain;
    }

-- in the opening's words
at_term : (s : StoreView) (now term : ℕ) (r o : OpeningParts) (next : Option (ℕ → ℕ)) (cut : ℕ → ℕ) → now ≡ term → opening_at s now ≡ One r →
    opening_at s term ≡ One o → IsReached s now (base_of r) next cut → IsReached s term (base_of o) next cut
at_term s now term r o next cut same one two a =
    subst (λ (o : OpeningParts). IsReached s term (base_of o) next cut) (one_same (sym (ap (opening_at s) same) ∙ one) two)
    (subst (λ t. IsReached s t (base_of r) next cut) same a)

module _ (s : StoreView) (rules : IsStore s) (top term : ℕ) (cut base : ℕ → ℕ) where
  at_last : (limit : Option (List ℕ)) → IsNext s top term limit → term ≡ top → IsReached s term base None cut →
      IsReached s term base (option_map count_at limit) cut
  at_last None next same a = a
  at_last (Some b) (c, child, e) same a = absurd (no_next s rules term top c.term c same child.opens child.parent child.in_chain)

  at_short : (limit : Option (List ℕ)) → IsNext s top term limit → (m : OpeningParts) → IsChild s top term m → IsReached s term base (Some (base_of m)) cut →
      IsReached s term base (option_map count_at limit) cut
  at_short None none m child a = absurd (none m child)
  at_short (Some b) (c, child, e) m own a =
      subst (λ (b : List ℕ). IsReached s term base (Some (count_at b)) cut)
      (ap (λ (c : OpeningParts). c.base) (same_child s rules top term m c own child) ∙ e) a

stop_reached : (s : StoreView) → IsStore s → (top term : ℕ) (cut : ℕ → ℕ) (o : OpeningParts) → opening_at s term ≡ One o → (limit : Option (List ℕ)) →
    IsNext s top term limit → {now : ℕ} → Stops s top term cut now → IsReached s term (base_of o) (option_map count_at limit) cut
stop_reached s rules top term cut o one limit next (Last {now = now} r two is_top is a) =
    at_last s rules top term cut (base_of o) limit next (sym is ∙ is_top) (at_term s now term r o None cut is two one a)
stop_reached s rules top term cut o one limit next (Short {now = now} r m after two three parent chain is a ne) =
    at_short s rules top term cut (base_of o) limit next m (child_of s rules top term after m three (parent ∙ is) chain)
    (at_term s now term r o (Some (base_of m)) cut is two one a)
stop_reached s rules top term cut o one limit next (On r m after all two three parent chain a e stops) =
    stop_reached s rules top term cut o one limit next stops

pub here_reached : (s : StoreView) → IsStore s → (p : Position) → IsPosition s p → (o : OpeningParts) → opening_at s p.term ≡ One o → (limit : Option
    (List ℕ)) →
    IsNext s p.top p.term limit → IsReached s p.term (base_of o) (option_map count_at limit) (count_at p.counts)
here_reached s rules p (NoTop none a b c) o one limit next = absurd (no_boot s rules p.term o one a)
here_reached s rules p (Top w) o one limit next = stop_reached s rules p.top p.term (count_at p.counts) o one limit next w.stops

stop_chain : (s : StoreView) → (top term : ℕ) (cut : ℕ → ℕ) {now : ℕ} → Stops s top term cut now → InChain s term top
stop_chain s top term cut (Last o one is_top is a) = Self (sym is_top ∙ is)
stop_chain s top term cut (Short o m next one two parent chain is a ne) = subst (λ t. InChain s t top) (parent ∙ is) (chain_up s next m two chain)
stop_chain s top term cut (On o m next all one two parent chain a e stops) = stop_chain s top term cut stops

pub here_chain : (s : StoreView) → IsStore s → (p : Position) → IsPosition s p → (o : OpeningParts) → opening_at s p.term ≡ One o → InChain s p.term p.top
here_chain s rules p (NoTop none a b c) o one = absurd (no_boot s rules p.term o one a)
here_chain s rules p (Top w) o one = stop_chain s p.top p.term (count_at p.counts) w.stops

pub here_sound : (s : StoreView) → IsStore s → (p : Position) → IsPosition s p → (o : OpeningParts) → opening_at s p.term ≡ One o → Sound s p.top
here_sound s rules p (NoTop none a b c) o one = absurd (no_boot s rules p.term o one a)
here_sound s rules p (Top w) o one = w.top.sound

-- ---- a store that grew

module _ (s n : StoreView) (rules : IsStore s) (grown : IsStore n) (openings : (term : ℕ) → opening_at n term ≡ opening_at s term)
    (kept : (key : Key) (x : FragmentParts) → fragment_at s key ≡ One x → fragment_at n key ≡ One x) where
  grows : (term : ℕ) → GrowsAt s n term
  grows term hart place x = kept (record { term = term; hart = hart; place = place }) x

  -- a term that was walked to its end is walked to its end
  on_reached : (now : ℕ) (base limit all : ℕ → ℕ) → ((hart : ℕ) → all hart ≡ limit hart) → IsReached s now base (Some limit) all →
      IsReached n now base (Some limit) all
  on_reached now base limit all same r =
      let g = to_greatest s rules now base (Some limit) all r in
      from_greatest n grown now base (Some limit) all
      (record {
        cut_of = cut_grown s n grown now (grows now) base (Some limit) all g.cut_of;
        bound = λ other is h. let below : other h ≤ limit h = is.before_next h in let e : all h ≡ limit h = same h in omega arith;
      })

  -- each cut of the term was one before
  abbrev pub HasNoMore : ℕ → Type 0
  HasNoMore term = (o : OpeningParts) → opening_at s term ≡ One o → (next : Option (ℕ → ℕ)) (other : ℕ → ℕ) → IsCutOf n term (base_of o) next other →
      IsCutOf s term (base_of o) next other

  -- where nothing came to the term
  pub no_more : (term : ℕ) → GrowsAt n s term → HasNoMore term
  no_more term back o one next other is = cut_grown n s rules term back (base_of o) next other is

  -- and then the term is reached as it was
  same_reached : (term : ℕ) → HasNoMore term → (now : ℕ) → now ≡ term → (o : OpeningParts) → opening_at s now ≡ One o → (next : Option (ℕ → ℕ))
      (cut : ℕ → ℕ) → IsReached s now (base_of o) next cut → IsReached n now (base_of o) next cut
  same_reached term back now is o one next cut r =
      let before : HasNoMore now = subst HasNoMore (sym is) back in
      let g = to_greatest s rules now (base_of o) next cut r in
      from_greatest n grown now (base_of o) next cut
      (record {
        cut_of = cut_grown s n grown now (grows now) (base_of o) next cut g.cut_of;
        bound = λ other is. g.bound other (before o one next other is);
      })

  stops_same : (top term : ℕ) (cut : ℕ → ℕ) → HasNoMore term → {now : ℕ} → Stops s top term cut now → Stops n top term cut now
  stops_same top term cut back (Last {now = now} o one is_top is a) =
      Last o (openings now ∙ one) is_top is (same_reached term back now is o one None cut a)
  stops_same top term cut back (Short {now = now} o m next one two parent chain is a ne) =
      Short o m next (openings now ∙ one) (openings next ∙ two) parent (chain_over s n openings chain) is
      (same_reached term back now is o one (Some (base_of m)) cut a) ne
  stops_same top term cut back (On {now = now} o m next all one two parent chain a e stops) =
      On o m next all (openings now ∙ one) (openings next ∙ two) parent (chain_over s n openings chain) (on_reached now (base_of o) (base_of m) all e a) e
      (stops_same top term cut back stops)

  -- a walk that came to the term comes to it, and goes on from there
  stops_from : (top term : ℕ) (cut : ℕ → ℕ) (to : ℕ) (new : ℕ → ℕ) → Stops n top to new term → {now : ℕ} → Stops s top term cut now → Stops n top to new now
  stops_from top term cut to new rest (Last o one is_top is a) = subst (Stops n top to new) (sym is) rest
  stops_from top term cut to new rest (Short o m next one two parent chain is a ne) = subst (Stops n top to new) (sym is) rest
  stops_from top term cut to new rest (On {now = now} p m next all one two parent chain a e stops) =
      On p m next all (openings now ∙ one) (openings next ∙ two) parent (chain_over s n openings chain) (on_reached now (base_of p) (base_of m) all e a) e
      (stops_from top term cut to new rest stops)

  top_over : (top : ℕ) → IsTop s top → IsTop n top
  top_over top is =
      record {
        sound = sound_over s n openings is.sound;
        greatest = λ other sound. is.greatest other (sound_over n s (λ t. sym (openings t)) sound);
      }

  -- the position's term has no cut more
  pub position_same : (p : Position) → HasNoMore p.term → IsPosition s p → IsPosition n p
  position_same p back (NoTop none a b c) = NoTop (λ term sound. none term (sound_over n s (λ t. sym (openings t)) sound)) a b c
  position_same p back (Top w) =
      Top
      (record {
        top = top_over p.top w.top;
        root = w.root;
        opening = w.opening;
        opens = openings w.root ∙ w.opens;
        first = w.first;
        in_chain = chain_over s n openings w.in_chain;
        stops = stops_same p.top p.term (count_at p.counts) back w.stops;
      })

  -- the term that comes next
  pub next_over : (top term : ℕ) (limit : Option (List ℕ)) → IsNext n top term limit → IsNext s top term limit
  next_over top term None none =
      λ o child.
      none o
      (record { opens = openings o.term ∙ child.opens; parent = child.parent; in_chain = chain_over s n openings child.in_chain })
  next_over top term (Some base) (o, child, e) = (
    o,
    record {
      opens = sym (openings o.term) ∙ child.opens;
      parent = child.parent;
      in_chain = chain_over n s (λ t. sym (openings t)) child.in_chain;
    },
    e,
  )

  pub chain_grown : {term top : ℕ} → InChain s term top → InChain n term top
  chain_grown chain = chain_over s n openings chain

  pub sound_grown : {term : ℕ} → Sound s term → Sound n term
  sound_grown sound = sound_over s n openings sound

  -- the walk went on from the position's term
  pub position_here : (p q : Position) → q.top ≡ p.top → (o : OpeningParts) → opening_at s p.term ≡ One o →
      Stops n p.top q.term (count_at q.counts) p.term → IsPosition s p → IsPosition n q
  position_here p q top o one rest (NoTop none a b c) = absurd (no_boot s rules p.term o one a)
  position_here p q top o one rest (Top w) =
      Top
      (record {
        top = subst (IsTop n) (sym top) (top_over p.top w.top);
        root = w.root;
        opening = w.opening;
        opens = openings w.root ∙ w.opens;
        first = w.first;
        in_chain = subst (InChain n w.root) (sym top) (chain_over s n openings w.in_chain);
        stops =
            subst (λ t. Stops n t q.term (count_at q.counts) w.root) (sym top)
            (stops_from p.top p.term (count_at p.counts) q.term (count_at q.counts) rest w.stops);
      })
