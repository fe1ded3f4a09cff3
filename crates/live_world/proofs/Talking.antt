-- What calls of clients do to all processes.
use Rattle.std.proofs.Common.{◌≡◌, inl, inr, ℕ, ◌+◌, ◌<◌, List, [], ◌∷◌, ◌++◌, length, get_or, slice_get, slice_set, Option, None, Some, IfSome, IfNone, refl, sym, ap, ◌∙◌}
use Rattle.std.specs.Option.{option_to_list}
use Rattle.std.proofs.lemmas.Option.{slice_get_read}
use Rattle.asking.specs.Talks.{TalkView}
use Rattle.asking.specs.declared.talk.Told.{Told}
use Rattle.requests.specs.Asking.{asked_again, had, next_of}
use Rattle.wire.specs.declared.answers.Answer.{Answer}
use Rattle.wire.specs.declared.requests.Request.{Request}
use Rattle.live_world.specs.Happenings.{AsksNext, AtTalk, HearsOne, TellsNext}
use Rattle.live_world.specs.Views.{LiveView}

-- the processes, as a call has them in its hands
module _ (was v : LiveView) (same : was ≡ v) where
  pub client_there : (n : ℕ) (t : TalkView) → n < length was.clients → t ≡ get_or was.clients n t → slice_get v.clients n ≡ Some t
  client_there n t less is =
      ap (λ (x : LiveView). slice_get x.clients n) (sym same) ∙ slice_get_read was.clients (length was.clients) n t refl less is

  pub told_there : (n : ℕ) (a : Answer) → n < length was.told → a ≡ get_or was.told n a → slice_get v.told n ≡ Some a
  told_there n a less is = ap (λ (x : LiveView). slice_get x.told n) (sym same) ∙ slice_get_read was.told (length was.told) n a refl less is

  -- the client did this, and nothing else is another but what was asked for behind all that was
  pub at_talk : (u : LiveView) (n : ℕ) (t s : TalkView) (Deed : TalkView → TalkView → Type 0) → n < length was.clients →
      t ≡ get_or was.clients n t → Deed t s → u ≡ record was { clients = slice_set was.clients n s } →
      AtTalk v n Deed u × (u ≡ record v { clients = u.clients })
  at_talk u n t s Deed less is deed rest =
      let clients : u.clients ≡ slice_set was.clients n s = ap (λ (u : LiveView). u.clients) rest in (
        record {
          before = t;
          there = client_there n t less is;
          after = s;
          deed = deed;
          clients = clients ∙ ap (λ (x : LiveView). slice_set x.clients n s) same;
        },
        rest ∙ ap (λ (all : List TalkView). record was { clients = all }) (sym clients) ∙ ap (λ (x : LiveView). record x { clients = u.clients }) same,
      )

  pub asks_more : (u : LiveView) (n : ℕ) (t s : TalkView) (asked more : List Request) (Deed : TalkView → TalkView → Type 0) → n < length was.clients →
      t ≡ get_or was.clients n t → Deed t s → asked ≡ was.asked ++ more → u ≡ record was { clients = slice_set was.clients n s; asked = asked } →
      AtTalk v n Deed u × (u ≡ record v { clients = u.clients; asked = v.asked ++ more })
  asks_more u n t s asked more Deed less is deed all rest =
      let clients : u.clients ≡ slice_set was.clients n s = ap (λ (u : LiveView). u.clients) rest in (
        record {
          before = t;
          there = client_there n t less is;
          after = s;
          deed = deed;
          clients = clients ∙ ap (λ (x : LiveView). slice_set x.clients n s) same;
        },
        rest ∙ ap (λ (asked : List Request). record was { clients = slice_set was.clients n s; asked = asked }) all
            ∙ ap (λ (all : List TalkView). record was { clients = all; asked = was.asked ++ more }) (sym clients)
            ∙ ap (λ (x : LiveView). record x { clients = u.clients; asked = x.asked ++ more }) same,
      )

  -- it heard an answer that was told, or not
  pub hears_told : (u : LiveView) (n : ℕ) (t s : TalkView) (k : ℕ) (a : Answer) → n < length was.clients → t ≡ get_or was.clients n t →
      k < length was.told → a ≡ get_or was.told k a → HearsOne a t s → u ≡ record was { clients = slice_set was.clients n s } →
      (a : Answer) × (slice_get v.told k ≡ Some a) × AtTalk v n (HearsOne a) u × (u ≡ record v { clients = u.clients })
  hears_told u n t s k a less is below is_told deed rest =
      let did = at_talk u n t s (HearsOne a) less is deed rest in (a, told_there k a below is_told, did.0, did.1)

  -- it asked once more
  pub asks_again : (n : ℕ) (t : TalkView) (asked more : List Request) → n < length was.clients → t ≡ get_or was.clients n t →
      more ≡ asked_again t.asker → asked ≡ was.asked ++ more →
      (t : TalkView) × (slice_get v.clients n ≡ Some t) × (record was { asked = asked } ≡ record v { asked = v.asked ++ asked_again t.asker })
  asks_again n t asked more less is again all = (
    t,
    client_there n t less is,
    ap (λ (l : List Request). record was { asked = l }) (all ∙ ap (λ (l : List Request). was.asked ++ l) again)
        ∙ ap (λ (x : LiveView). record x { asked = x.asked ++ asked_again t.asker }) same,
  )

-- the next word was asked for, where there was one
pub asks_next : (t s : TalkView) (r : Option Request) (more : List Request) → r ≡ next_of t.asker →
    s ≡ record t { asker = record t.asker { sent = t.asker.sent + length (option_to_list r) } } → more ≡ option_to_list r → AsksNext more t s
asks_next t s r more is sent all = (
  all ∙ ap (λ (r : Option Request). option_to_list r) is,
  sent ∙ ap (λ (l : List Request). record t { asker = record t.asker { sent = t.asker.sent + length l } }) (sym all),
)

-- the next answer was told, where it was there
pub tells_next : (t s : TalkView) (r : Option Told) →
    IfSome r (λ x. (x.number ≡ t.told) × (had t.asker t.told ≡ Some x.word) × (s ≡ record t { told = t.told + 1 })) →
    IfNone r ((had t.asker t.told ≡ None) × (s ≡ t)) → TellsNext t s
tells_next t s None next none = inl none
tells_next t s (Some x) next none = inr (x.word, next.1, next.2)
