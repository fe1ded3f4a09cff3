-- The world stays one that comes in the theory: requests that are heard, what is told, primaries that end, and what clients do.
use Rattle.std.proofs.Common.{◌≡◌, inl, inr, ℕ, zero, suc, ◌+◌, ◌<◌, Bool, true, false, List, [], ◌∷◌, ◌++◌, length, map, take, drop, filter, Contains}
use Rattle.std.proofs.Common.{slice_get, slice_set, Some, None, refl, sym, ap, subst, ◌∙◌, arith}
use Rattle.std.specs.Prelude.{nat_lt, if◌then◌else◌, ◌==◌, ◌&&◌}
use Rattle.std.specs.List.{enumerate_from}
use Rattle.std.proofs.lemmas.Bool.{eqb-true, and_parts}
use Rattle.std.proofs.lemmas.List.Elements.{Contains-append_cases}
use Rattle.edge_log.proofs.Logs.{map_contains}
use Rattle.interleaving.proofs.Cuts.{here, here_or_later}
use Rattle.guest_image.specs.Image.{guest_of}
use Rattle.ft_types.specs.declared.output.Output.{Output}
use Rattle.input_log.specs.declared.Input.{Input}
use Rattle.input_log.specs.declared.Input.TheVariants.{Timer as TimerInput, Word as WordInput}
use Rattle.output_gate.specs.Gates.{mark_at}
use Rattle.primary.specs.Outputs.{said_at, numbered_from}
use Rattle.primary.specs.declared.released.Released.{Released}
use Rattle.requests.specs.Asking.{AskerView, next_of, had, heard, told, with_answer}
use Rattle.requests.specs.Queues.{QueueView, at_room, comes_of}
use Rattle.requests.specs.declared.queue.Came.{Came}
use Rattle.requests.specs.declared.queue.Came.TheVariants.{Taken}
use Rattle.requests.specs.declared.asker.Heard.{Heard as HeardOf}
use Rattle.requests.specs.declared.asker.Heard.TheVariants.{New, Foreign}
use Rattle.asking.specs.Talks.{TalkView}
use Rattle.leading.specs.Hearing.{Comes, Hears, put_as}
use Rattle.leading.specs.Leaders.{LeaderView, queue_at}
use Rattle.leading.specs.Telling.{told_in, told_again, is_from}
use Rattle.leading.specs.declared.heard.Heard.{Heard}
use Rattle.leading.specs.declared.heard.Heard.TheVariants as on
use Rattle.wire.specs.declared.answers.Answer.{Answer}
use Rattle.wire.specs.declared.requests.Request.{Request}
use Rattle.wire.specs.declared.requests.Request.TheVariants.{Timer, Word, From}
use Rattle.fenced_theory.specs.Recorders.{Output as TheoryOutput}
use Rattle.fenced_theory.proofs.Growing.{some_same, some_none}
use Rattle.failover_world.specs.machinery.Tied.{theory_released}
use Rattle.failover_world.proofs.Noting.{in_filter}
use Rattle.process_world.specs.Worlds.{Led, ProcessWorld, Leads, led_as}
use Rattle.process_world.specs.Happenings.{led_by, told_of, answer_of, ended}
use Rattle.process_world.specs.machinery.Tied.{IsTold, IsTied}
use Rattle.process_world.proofs.Lists.{none_in, only_one, set_cases, set_either, push_cases}
use Rattle.process_world.proofs.Seats.{renewed, with_parts, still_heard, more_told, led_changed, leader_changed, none_told}
use Rattle.process_world.proofs.Terms.{own, past_now, there_now}
use Rattle.process_world.proofs.Releasing.{in_theory}
use Rattle.process_world.proofs.Laws.{notes}

-- ---- lists

-- what has a number stands there
at_number : {A : Type 0} (n : ℕ) (xs : List A) (x : ℕ × A) → Contains (enumerate_from n xs) x →
    (k : ℕ) × (n + k ≡ x.0) × (slice_get xs k ≡ Some x.1)
at_number n [] x has = none_in [] x refl has
at_number {A} n (y ∷ xs) x has =
    elim (here_or_later (n, y) (enumerate_from (n + 1) xs) x has) [
      | inl same ↦ let e : n ≡ x.0 = ap (λ (p : ℕ × A). p.0) same in (0, omega (arith, e), ap (λ (p : ℕ × A). Some p.1) same)
      | inr later ↦ let (k, number, there) = at_number (n + 1) xs x later in (suc k, omega (arith, number), there)
    ]

-- behind the first n an element stands n places further on in the whole list
behind : {A : Type 0} (n k : ℕ) (xs : List A) (x : A) → slice_get (drop n xs) k ≡ Some x → slice_get xs (n + k) ≡ Some x
behind zero k xs x is = let e : k ≡ 0 + k = omega arith in subst (λ m. slice_get xs m ≡ Some x) e is
behind (suc n) k [] x is = absurd cc
behind (suc n) k (y ∷ xs) x is =
    let e : suc (n + k) ≡ suc n + k = omega arith in subst (λ m. slice_get (y ∷ xs) m ≡ Some x) e (behind n k xs x is)

-- among the first n an element stands where it does in the whole list
before : {A : Type 0} (n k : ℕ) (xs : List A) (x : A) → slice_get (take n xs) k ≡ Some x → (k < n) × (slice_get xs k ≡ Some x)
before zero k xs x is = absurd cc
before (suc n) k [] x is = absurd cc
before (suc n) zero (y ∷ xs) x is = (omega arith, is)
before (suc n) (suc k) (y ∷ xs) x is = let (less, there) = before n k xs x is in (omega (arith, less), there)

-- ---- what a client hears

-- what is new is not foreign
passed : (b : Bool) (x : HeardOf) → (if b then x else Foreign) ≡ New → b ≡ true
passed true x is = refl
passed false x is = absurd cc

-- what is new to a client is of its hart
of_its_hart : (a : AskerView) (o : Output) → heard a o ≡ New → o.hart ≡ a.hart
of_its_hart a o new =
    let both = passed ((o.hart == a.hart) && nat_lt o.number a.sent) (told (had a o.number) o.word) new in
    eqb-true o.hart a.hart (and_parts (o.hart == a.hart) (nat_lt o.number a.sent) both).0

-- ---- what is told of an output

-- an output, as it is told in a term
abbrev answer_in : ℕ → Output → Answer
answer_in term o = record { term = term; output = o }

-- what a hart put out, with its number
abbrev output_at : ℕ → ℕ × (ℕ × ℕ) → Output
output_at hart o = record { hart = hart; number = o.0; step = o.1.0; word = o.1.1 }

module _ (w : ProcessWorld) (is : IsTied w) where
  -- what a client heard was told
  abbrev WasTold : TalkView → Type 0
  WasTold t =
      (number word : ℕ) → had t.asker number ≡ Some word →
      (a : Answer) × Contains w.told a × (a.output.hart ≡ t.asker.hart) × (a.output.number ≡ number) × (a.output.word ≡ word)

  -- one client is another, and what it heard was told
  client_changed : (c : ℕ) (t u : TalkView) (asked : List Request) → slice_get w.clients c ≡ Some t → WasTold u →
      IsTied (record w { clients = slice_set w.clients c u; asked = asked })
  client_changed c t u asked at own =
      with_parts w is w.led w.told (slice_set w.clients c u) asked is.granted is.leaders is.told
      (λ k v number word there. elim (set_cases w.clients c k u v there) [
        | inl (here, so) ↦ subst WasTold so own number word
        | inr (other, was) ↦ is.heard k v number word was
      ])

  -- ---- primaries

  -- a primary has other queues, and tells these
  answers_with : (n : ℕ) (old new : LeaderView) (queues : List QueueView) → Leads w n old → new ≡ record old { queues = queues } →
      (answers : List Answer) → ((a : Answer) → Contains answers a → IsTold is.world.released a) →
      IsTied (record w { led = led_by w n new; told = answers ++ w.told })
  answers_with n old new queues at same answers out =
      let own = is.leaders n old at in
      subst (λ (l : LeaderView). IsTied (record w { led = led_by w n l; told = answers ++ w.told })) (sym same)
      (leader_changed w is n old (record old { queues = queues }) at refl refl
      (renewed is.world is.world is.terms is.terms (guest_of w.image) w.keepers w.need old old.primary.sealed old.gate.acked queues own own.within own.acked
      (λ r has. has) (λ hart. refl) (λ hart. refl)) answers out)

  -- an input came for a hart
  comes_to : (n : ℕ) (old new : LeaderView) (hart : ℕ) (input : Input) (becomes : QueueView → Came) (what : Heard) → Leads w n old →
      Comes old hart input becomes new what → IsTied (record w { led = led_by w n new; told = told_of what ++ w.told })
  comes_to n old new hart input becomes on.NoHart at (none, same) = answers_with n old new old.queues at same [] (none_told w is)
  comes_to n old new hart input becomes (on.Came came) at (there, so, same) =
      answers_with n old new (slice_set old.queues hart (put_as (queue_at old.queues hart) input came)) at same [] (none_told w is)
  comes_to n old new hart input becomes (on.Told answers) at never = absurd never

  module _ (n : ℕ) (l : LeaderView) (at : Leads w n l) where
    -- an output of its machine below the mark went out in an older term
    below_mark : (hart : ℕ) (o : ℕ × (ℕ × ℕ)) → o.0 < mark_at l.gate.gate hart →
        slice_get (said_at l.primary.book.machine hart) o.0 ≡ Some o.1 →
        IsTold is.world.released (answer_in l.primary.opening.term (output_at hart o))
    below_mark hart o less said =
        let low = subst (λ mark. o.0 < mark) (sym ((own w is n l at).marked hart)) less in
        let out : TheoryOutput = record { step = o.1.0; word = o.1.1 } in
        let (r, has, of_hart, of_number, same, older) =
        (notes w is).marked l.primary.opening.term hart o.0 (past_now w is n l at) out (there_now w is n l at) low
        (in_theory w is l.primary.book (own w is n l at).within.is_book (own w is n l at).led hart o.0 o.1.0 o.1.1 said) in
        record {
          out = r;
          has = has;
          of_hart = of_hart;
          of_number = of_number;
          of_step = ap (λ o. o.step) same;
          of_word = ap (λ o. o.word) same;
          no_later = omega (arith, older);
        }

    -- one that it let go went out in its term
    let_go : (r : Released) → Contains l.released r → IsTold is.world.released (answer_of l.primary.opening.term r)
    let_go r has =
        let (there, in_term) = (own w is n l at).released r has in
        record {
          out = theory_released r;
          has = there;
          of_hart = refl;
          of_number = refl;
          of_step = refl;
          of_word = refl;
          no_later = omega (arith, in_term);
        }

    -- what is told again went out: by its mark
    told_first : (hart number : ℕ) (a : Answer) →
        Contains (told_in l.primary.opening.term
        (numbered_from hart number (drop number (take (mark_at l.gate.gate hart) (said_at l.primary.book.machine hart))))) a →
        IsTold is.world.released a
    told_first hart number a has =
        let known = drop number (take (mark_at l.gate.gate hart) (said_at l.primary.book.machine hart)) in
        let (o, among, so) = map_contains (answer_in l.primary.opening.term) (numbered_from hart number known) a has in
        let (x, there, is_so) = map_contains (output_at hart) (enumerate_from number known) o among in
        let (k, of_number, stands) = at_number number known x there in
        let stood = behind number k (take (mark_at l.gate.gate hart) (said_at l.primary.book.machine hart)) x.1 stands in
        let (less, said) =
        before (mark_at l.gate.gate hart) x.0 (said_at l.primary.book.machine hart) x.1
        (subst (λ m. slice_get (take (mark_at l.gate.gate hart) (said_at l.primary.book.machine hart)) m ≡ Some x.1) of_number stood) in
        subst (IsTold is.world.released) (ap (answer_in l.primary.opening.term) is_so ∙ so) (below_mark hart x less said)

    -- by its own list of what went out
    told_last : (hart number : ℕ) (a : Answer) →
        Contains (told_in l.primary.opening.term (filter (is_from hart number) (map (λ r. r.output) l.released))) a →
        IsTold is.world.released a
    told_last hart number a has =
        let outputs : List Output = map (λ (r : Released). r.output) l.released in
        let (o, among, so) = map_contains (answer_in l.primary.opening.term) (filter (is_from hart number) outputs) a has in
        let (r, there, is_so) = map_contains (λ (r : Released). r.output) l.released o (in_filter (is_from hart number) outputs o among).0 in
        subst (IsTold is.world.released) (ap (answer_in l.primary.opening.term) is_so ∙ so) (let_go r there)

    -- and so by either
    told_again_out : (hart number : ℕ) (a : Answer) →
        Contains (told_again l.primary.opening.term l.primary.book.machine (mark_at l.gate.gate hart) l.released hart number) a →
        IsTold is.world.released a
    told_again_out hart number a has =
        let first = numbered_from hart number (drop number (take (mark_at l.gate.gate hart) (said_at l.primary.book.machine hart))) in
        let last = filter (is_from hart number) (map (λ (r : Released). r.output) l.released) in
        elim (Contains-append_cases (told_in l.primary.opening.term first) (told_in l.primary.opening.term last) a has) [
          | inl one ↦ told_first hart number a one
          | inr two ↦ told_last hart number a two
        ]

  -- a request is heard
  pub hears_request : (n : ℕ) (old new : LeaderView) (request : Request) (what : Heard) → Leads w n old → Hears old request new what →
      IsTied (record w { led = led_by w n new; told = told_of what ++ w.told })
  hears_request n old new (Timer hart) what at came =
      comes_to n old new hart TimerInput (λ q. at_room (length q.waiting) Taken) what at came
  hears_request n old new (Word hart word number) what at came =
      comes_to n old new hart (WordInput word) (λ q. comes_of q number) what at came
  hears_request n old new (From hart number) (on.Told answers) at (these, same) =
      answers_with n old new old.queues at same answers.items
      (λ a has. told_again_out n old at hart number a (subst (λ (all : List Answer). Contains all a) these has))
  hears_request n old new (From hart number) on.NoHart at (never, same) = absurd never
  hears_request n old new (From hart number) (on.Came came) at (never, same) = absurd never

  -- what went out is told
  pub tells : (n : ℕ) (l : LeaderView) (r : Released) → Leads w n l → Contains l.released r →
      IsTied (record w { told = answer_of l.primary.opening.term r ∷ w.told })
  tells n l r at has =
      let one : List Answer = answer_of l.primary.opening.term r ∷ [] in
      with_parts w is w.led (one ++ w.told) w.clients w.asked is.granted is.leaders
      (more_told w is one (λ a new. subst (IsTold is.world.released) (only_one (answer_of l.primary.opening.term r) a new) (let_go n l at r has)))
      (still_heard w is one)

  -- a primary's process ends
  pub ends : (n : ℕ) (l : LeaderView) → Leads w n l →
      IsTied (record w { led = slice_set w.led n (ended l) })
  ends n l at =
      led_changed w is n (led_as l) (ended l) at refl refl (λ k so. some_none (ap (λ (x : Led). x.leader) so) refl) [] (none_told w is)

  -- ---- clients

  -- a client comes, that has heard nothing
  pub joins : (t : TalkView) → ((number : ℕ) → had t.asker number ≡ None) → IsTied (record w { clients = w.clients ++ t ∷ [] })
  joins t none =
      with_parts w is w.led w.told (w.clients ++ t ∷ []) w.asked is.granted is.leaders is.told
      (λ k u number word there. elim (push_cases w.clients t k u there) [
        | inl was ↦ is.heard k u number word was
        | inr (last, so) ↦ λ had_it. some_none (subst (λ (u : TalkView). had u.asker number ≡ Some word) (sym so) had_it) (none number)
      ])

  -- a client asks for its next word
  pub asks : (c : ℕ) (t : TalkView) (r : Request) → slice_get w.clients c ≡ Some t → next_of t.asker ≡ Some r →
      IsTied (record w { clients = slice_set w.clients c (record t { asker = record t.asker { sent = t.asker.sent + 1 } }); asked = r ∷ w.asked })
  asks c t r at next =
      client_changed c t (record t { asker = record t.asker { sent = t.asker.sent + 1 } }) (r ∷ w.asked) at
      (λ number word had_it. is.heard c t number word at had_it)

  -- more is asked for
  pub wants : (asked : List Request) → IsTied (record w { asked = asked })
  wants asked = with_parts w is w.led w.told w.clients asked is.granted is.leaders is.told is.heard

  -- a client hears what is new to it
  pub hears_answer : (c : ℕ) (t : TalkView) (a : Answer) → slice_get w.clients c ≡ Some t → Contains w.told a → heard t.asker a.output ≡ New →
      IsTied (record w { clients = slice_set w.clients c (record t { asker = with_answer t.asker a.output }) })
  hears_answer c t a at has new =
      client_changed c t (record t { asker = with_answer t.asker a.output }) w.asked at
      (λ number word had_it. elim (set_either t.asker.answers a.output.number number (Some a.output.word) None) [
        | inl (same, own) ↦ (a, has, of_its_hart t.asker a.output new, same, some_same own had_it)
        | inr old ↦ is.heard c t number word at (sym old ∙ had_it)
      ])

  -- a client tells what it has heard
  pub prints : (c : ℕ) (t : TalkView) (word : ℕ) → slice_get w.clients c ≡ Some t → had t.asker t.told ≡ Some word →
      IsTied (record w { clients = slice_set w.clients c (record t { told = t.told + 1 }) })
  prints c t word at told_one = client_changed c t (record t { told = t.told + 1 }) w.asked at (λ number word had_it. is.heard c t number word at had_it)
