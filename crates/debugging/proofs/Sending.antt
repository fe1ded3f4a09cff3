-- What is said, bit by bit.
use Rattle.std.proofs.Common.{◌≡◌, ◌<◌, ◌+◌, ◌||◌, ℕ, length, get_or, Bool, true, false, List, [], ◌∷◌, ◌++◌, take, refl, sym, ap, ◌∙◌, append_assoc}
use Rattle.std.specs.Prelude.{codes}
use Rattle.std.proofs.lemmas.List.{append-nil, take_more}
use Rattle.gdb_packets.specs.declared.event.Event.{Event}
use Rattle.gdb_packets.specs.declared.event.Event.TheVariants as event
use Rattle.debugging.specs.declared.session.Answer.{Answer}
use Rattle.debugging.specs.Sessions.{SessionView}
use Rattle.debugging.specs.Answers.{IsAnswered}
use Rattle.debugging.specs.Conversations.{ConversationView, sign, packet_of, last_of, is_last, Hears, HearsPacket, HearsNext, Talks, Begins, GoesOn}
use Rattle.debugging.specs.machinery.Added.{Adds}

-- two texts are added, one behind the other
pub adds_both : (old between new first second : List ℕ) → between ≡ old ++ first → new ≡ between ++ second → new ≡ old ++ (first ++ second)
adds_both old between new first second p q = q ∙ ap (λ (x : List ℕ). x ++ second) p ∙ append_assoc old first second

-- ---- events

-- a packet is heard, once its answer is said
pub packet_heard : (packet : List ℕ) (c d : ConversationView) (t : SessionView) (acknowledges : Bool) (told : Answer) → IsAnswered packet c.session t told →
    (packet ≡ codes "QStartNoAckMode" → acknowledges ≡ false) → ((packet ≡ codes "QStartNoAckMode" → ⊥) → acknowledges ≡ c.acknowledges) →
    d ≡ record { session = t; last = last_of told c.last; acknowledges = acknowledges; is_over = is_last told || c.is_over } →
    HearsPacket packet c d (sign c 43 ++ packet_of told)
packet_heard packet c d t acknowledges told answered quiet other is = rw is (record {
  told = told;
  answered = answered;
  said_is = refl;
  last = refl;
  quiet = quiet;
  other = other;
  over = refl;
})

pub broken_heard : (e : Event) (c : ConversationView) (old new : List ℕ) → e ≡ event.Broken → new ≡ old ++ sign c 45 → Adds old new (Hears e c c)
broken_heard e c old new is added = rw is (sign c 45, added, (refl, refl))

pub again_heard : (e : Event) (c : ConversationView) (old new : List ℕ) → e ≡ event.Again → new ≡ old ++ c.last → Adds old new (Hears e c c)
again_heard e c old new is added = rw is (c.last, added, (refl, refl))

pub nothing_heard : (e : Event) (c : ConversationView) (old : List ℕ) → e ≡ event.Heard → Adds old old (Hears e c c)
nothing_heard e c old is = rw is ([], sym (append-nil old), (refl, refl))

pub nothing_interrupted : (e : Event) (c : ConversationView) (old : List ℕ) → e ≡ event.Interrupt → Adds old old (Hears e c c)
nothing_interrupted e c old is = rw is ([], sym (append-nil old), (refl, refl))

-- once gdb has gone
pub none_heard : (e : Event) (c : ConversationView) (old : List ℕ) → c.is_over ≡ true → Adds old old (HearsNext e c c)
none_heard e c old gone = ([], sym (append-nil old), record { there = λ is. absurd cc; gone = λ is. (refl, refl) })

-- and before
pub next_heard : (e : Event) (c d : ConversationView) (old new : List ℕ) → c.is_over ≡ false → Adds old new (Hears e c d) → Adds old new (HearsNext e c d)
next_heard e c d old new there (more, added, heard) = (more, added, record { there = λ is. heard; gone = λ is. absurd cc })

-- ---- one behind another

pub talks_none : (c : ConversationView) (events : List Event) (said : List ℕ) → said ≡ [] → Talks c (take 0 events) c said
talks_none c events said none = rw none Begins

pub talks_on : (c d next : ConversationView) (events : List Event) (i : ℕ) (e : Event) (said new : List ℕ) → i < length events → e ≡ get_or events i e →
    Talks c (take i events) d said → Adds said new (HearsNext e d next) → Talks c (take (i + 1) events) next new
talks_on c d next events i e said new h there talks (more, added, heard) =
    let is : take (i + 1) events ≡ take i events ++ e ∷ [] = take_more events i e h ∙ ap (λ (x : Event). take i events ++ x ∷ []) (sym there) in
    rw (is, added) (GoesOn e next more talks heard)
