-- What happens to clients, as events of the world of processes.
use Rattle.std.proofs.Common.{◌≡◌, ◌⊎◌, inl, inr, ◌↔◌, ℕ, zero, suc, ◌+◌, List, [], ◌∷◌, ◌++◌, Contains, length, slice_get, slice_set, Option, None, Some, Result, Ok, Err, OnOk, IfErr, refl, sym, ap, subst, ◌∙◌, arith}
use Rattle.std.specs.Option.{option_to_list}
use Rattle.std.proofs.lemmas.List.{append-nil}
use Rattle.asking.specs.Talks.{TalkView}
use Rattle.requests.specs.Asking.{next_of, asked_again, with_answer}
use Rattle.wire.specs.declared.answers.Answer.{Answer}
use Rattle.wire.specs.declared.requests.Request.{Request}
use Rattle.process_world.specs.Worlds.{ProcessWorld}
use Rattle.process_world.specs.Happenings.{Joins, Wants, Asks, AsksAgain, HearsAnswer, Prints}
use Rattle.live_world.specs.declared.event.ClientEvent.{ClientEvent}
use Rattle.live_world.specs.declared.event.ClientEvent.TheVariants as c
use Rattle.live_world.specs.declared.fault.EventFault.{EventFault}
use Rattle.live_world.specs.Happenings.{AtTalk, AsksNext, HearsOne, TellsNext, ClientHappens}
use Rattle.live_world.specs.Refusals.{ClientLeaves}
use Rattle.live_world.specs.Views.{GoesTo, IsWorldOf, LiveView}
use Rattle.live_world.proofs.Following.{once, goes_nowhere}
use Rattle.live_world.proofs.Growing.{both_more, contained}

-- a list with what stands at a place put there is that list
pub set_there : {A : Type 0} (xs : List A) (n : ℕ) (x : A) → slice_get xs n ≡ Some x → slice_set xs n x ≡ xs
set_there [] n x there = refl
set_there (y ∷ xs) zero x there = ap (λ z. z ∷ xs) cc
set_there (y ∷ xs) (suc n) x there = ap (λ zs. y ∷ zs) (set_there xs n x there)

-- both have these clients, and so has what is asked for behind all that was
module _ {v : LiveView} {w : ProcessWorld} (is : IsWorldOf v w) where
  both : (u : LiveView) (clients : List TalkView) (asked : List Request) → u ≡ record v { clients = u.clients; asked = u.asked } →
      clients ≡ u.clients → ((r : Request) → Contains u.asked r ↔ Contains asked r) → IsWorldOf u (record w { clients = clients; asked = asked })
  both u clients asked rest same each =
      let now : IsWorldOf (record v { clients = u.clients; asked = u.asked }) (record w { clients = clients; asked = asked }) = record {
        image = is.image;
        keepers = is.keepers;
        need = is.need;
        disks = is.disks;
        at_rest = is.at_rest;
        frames = is.frames;
        said = is.said;
        handed = λ h has. let in_w = is.handed h has in record { bytes = in_w.bytes; there = in_w.there; line = in_w.line; named = in_w.named };
        led = is.led;
        told = is.told;
        clients = same;
        asked = each;
      } in
      subst (λ (u : LiveView). IsWorldOf u (record w { clients = clients; asked = asked })) (sym rest) now

  pub clients_both : (u : LiveView) (clients : List TalkView) → u ≡ record v { clients = u.clients } → clients ≡ u.clients →
      IsWorldOf u (record w { clients = clients })
  clients_both u clients rest same =
      let asked : u.asked ≡ v.asked = ap (λ (u : LiveView). u.asked) rest in
      both u clients w.asked (rest ∙ ap (λ (more : List Request). record v { clients = u.clients; asked = more }) (sym asked)) same
      (λ r. subst (λ (more : List Request). Contains more r ↔ Contains w.asked r) (sym asked) (is.asked r))

  pub asked_both : (u : LiveView) (clients : List TalkView) (more : List Request) → u ≡ record v { clients = u.clients; asked = v.asked ++ more } →
      clients ≡ u.clients → IsWorldOf u (record w { clients = clients; asked = more ++ w.asked })
  asked_both u clients more rest same =
      let asked : u.asked ≡ v.asked ++ more = ap (λ (u : LiveView). u.asked) rest in
      both u clients (more ++ w.asked) (rest ∙ ap (λ (all : List Request). record v { clients = u.clients; asked = all }) (sym asked)) same
      (λ r. subst (λ (all : List Request). Contains all r ↔ Contains (more ++ w.asked) r) (sym asked) (both_more v.asked w.asked more is.asked r))

  -- the client stands there too
  pub talks : (n : ℕ) (t : TalkView) → slice_get v.clients n ≡ Some t → slice_get w.clients n ≡ Some t
  talks n t there = ap (λ (clients : List TalkView). slice_get clients n) is.clients ∙ there

-- where the client at a place is the one that was there, and nothing else is another, all is as it was
as_it_was : (v u : LiveView) (n : ℕ) (t s : TalkView) → slice_get v.clients n ≡ Some t → u.clients ≡ slice_set v.clients n s → s ≡ t →
    u ≡ record v { clients = u.clients } → u ≡ v
as_it_was v u n t s there clients same rest =
    let back : u.clients ≡ v.clients = clients ∙ ap (λ (x : TalkView). slice_set v.clients n x) same ∙ set_there v.clients n t there in
    rest ∙ ap (λ (all : List TalkView). record v { clients = all }) back

-- it may ask for its next word
asks_goes : (v u : LiveView) (n : ℕ) (t s : TalkView) (more : List Request) (next : Option Request) → next_of t.asker ≡ next →
    slice_get v.clients n ≡ Some t → more ≡ option_to_list next → s ≡ record t { asker = record t.asker { sent = t.asker.sent + length more } } →
    u.clients ≡ slice_set v.clients n s → u ≡ record v { clients = u.clients; asked = v.asked ++ more } → GoesTo v u
asks_goes v u n t s more None is_next there none new clients rest =
    let sent : t.asker.sent + length more ≡ t.asker.sent = omega (arith, ap (λ (l : List Request). length l) none) in
    let same : s ≡ t = new ∙ ap (λ (sent : ℕ). record t { asker = record t.asker { sent = sent } }) sent in
    let asked : v.asked ++ more ≡ v.asked = ap (λ (l : List Request). v.asked ++ l) none ∙ append-nil v.asked in
    goes_nowhere (as_it_was v u n t s there clients same (rest ∙ ap (λ (l : List Request). record v { clients = u.clients; asked = l }) asked))
asks_goes v u n t s more (Some r) is_next there one new clients rest =
    λ w comes is.
    let sent : length more ≡ 1 = ap (λ (l : List Request). length l) one in
    let now : TalkView = record t { asker = record t.asker { sent = t.asker.sent + 1 } } in
    let same : now ≡ s = ap (λ (k : ℕ). record t { asker = record t.asker { sent = t.asker.sent + k } }) (sym sent) ∙ sym new in
    let both : slice_set w.clients n now ≡ u.clients =
    ap (λ (all : List TalkView). slice_set all n now) is.clients ∙ ap (λ (x : TalkView). slice_set v.clients n x) same ∙ sym clients in (
      record w { clients = slice_set w.clients n now; asked = r ∷ w.asked },
      once (Asks n t r (talks is n t there) is_next),
      asked_both is u (slice_set w.clients n now) (r ∷ []) (rest ∙ ap (λ (l : List Request). record v { clients = u.clients; asked = v.asked ++ l }) one) both,
    )

-- an answer may be heard
answer_goes : (v u : LiveView) (n : ℕ) (t s : TalkView) (a : Answer) → Contains v.told a → slice_get v.clients n ≡ Some t → HearsOne a t s →
    u.clients ≡ slice_set v.clients n s → u ≡ record v { clients = u.clients } → GoesTo v u
answer_goes v u n t s a told there (inl (says, new, now)) clients rest =
    λ w comes is.
    let heard : TalkView = record t { asker = with_answer t.asker a.output } in
    let both : slice_set w.clients n heard ≡ u.clients =
    ap (λ (all : List TalkView). slice_set all n heard) is.clients ∙ ap (λ (x : TalkView). slice_set v.clients n x) (sym now) ∙ sym clients in (
      record w { clients = slice_set w.clients n heard },
      once (HearsAnswer n t a (talks is n t there) ((is.told a).0 told) new),
      clients_both is u (slice_set w.clients n heard) rest both,
    )
answer_goes v u n t s a told there (inr (unheard, same)) clients rest = goes_nowhere (as_it_was v u n t s there clients same rest)

-- an answer may be told
print_goes : (v u : LiveView) (n : ℕ) (t s : TalkView) → slice_get v.clients n ≡ Some t → TellsNext t s → u.clients ≡ slice_set v.clients n s →
    u ≡ record v { clients = u.clients } → GoesTo v u
print_goes v u n t s there (inl (none, same)) clients rest = goes_nowhere (as_it_was v u n t s there clients same rest)
print_goes v u n t s there (inr (word, had, now)) clients rest =
    λ w comes is.
    let next : TalkView = record t { told = t.told + 1 } in
    let both : slice_set w.clients n next ≡ u.clients =
    ap (λ (all : List TalkView). slice_set all n next) is.clients ∙ ap (λ (x : TalkView). slice_set v.clients n x) (sym now) ∙ sym clients in
    (record w { clients = slice_set w.clients n next }, once (Prints n t word (talks is n t there) had), clients_both is u (slice_set w.clients n next) rest both)

-- whatever happens to clients goes so
pub client_goes : (v u : LiveView) (event : ClientEvent) → ClientHappens v event u → GoesTo v u
client_goes v u (c.Join words window) (t, none, own, most, rest) =
    λ w comes is.
    let more : u.clients ≡ v.clients ++ t ∷ [] = ap (λ (u : LiveView). u.clients) rest in (
      record w { clients = w.clients ++ t ∷ [] },
      once (Joins t none),
      clients_both is u (w.clients ++ t ∷ []) (rest ∙ ap (λ (all : List TalkView). record v { clients = all }) (sym more))
          (ap (λ (all : List TalkView). all ++ t ∷ []) is.clients ∙ sym more),
    )
client_goes v u (c.Want request) rest =
    λ w comes is.
    let same : u.clients ≡ v.clients = ap (λ (u : LiveView). u.clients) rest in (
      record w { asked = request ∷ w.asked },
      once (Wants request),
      asked_both is u w.clients (request ∷ []) (rest ∙ ap (λ (all : List TalkView). record v { clients = all; asked = v.asked ++ request ∷ [] }) (sym same))
          (is.clients ∙ sym same),
    )
client_goes v u (c.Ask client) (more, talk, rest) =
    asks_goes v u client talk.before talk.after more (next_of talk.before.asker) refl talk.there talk.deed.0 talk.deed.1 talk.clients rest
client_goes v u (c.AskAgain client) (t, there, rest) =
    λ w comes is.
    let same : u.clients ≡ v.clients = ap (λ (u : LiveView). u.clients) rest in (
      record w { asked = asked_again t.asker ++ w.asked },
      once (AsksAgain client t (talks is client t there)),
      asked_both is u w.clients (asked_again t.asker) (rest ∙ ap (λ (all : List TalkView). record v { clients = all; asked = v.asked ++ asked_again t.asker }) (sym same))
          (is.clients ∙ sym same),
    )
client_goes v u (c.Answer client told) (a, in_told, talk, rest) =
    answer_goes v u client talk.before talk.after a (contained v.told told a in_told) talk.there talk.deed talk.clients rest
client_goes v u (c.Print client) (talk, rest) = print_goes v u client talk.before talk.after talk.there talk.deed talk.clients rest

-- and so does what a call leaves, be it refused
pub clients_move : {U : Type 0} (v u : LiveView) (event : ClientEvent) (result : Result U EventFault) → OnOk result (ClientHappens v event u) →
    IfErr result (λ f. ClientLeaves v event f u) → GoesTo v u
clients_move v u event (Ok x) happens left = client_goes v u event happens
clients_move v u event (Err f) happens left = goes_nowhere left
