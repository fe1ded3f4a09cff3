-- What is said to gdb.
use Rattle.std.specs.Prelude.{◌≡◌, ℕ, Bool, true, false, ◌||◌, if◌then◌else◌, List, [], ◌∷◌, ◌++◌, codes}
use Rattle.gdb_packets.specs.declared.event.Event.{Event}
use Rattle.gdb_packets.specs.declared.event.Event.TheVariants as event
use Rattle.gdb_packets.specs.Packets.{spelling}
use Rattle.gdb_packets.specs.Streams.{Unread, Follows}
use Rattle.plan_lines.specs.Line.{LineView}
use Rattle.debugging.specs.declared.session.Answer.{Answer}
use Rattle.debugging.specs.declared.session.Answer.TheVariants.{Says, SaysLast, Over}
use Rattle.debugging.specs.Sessions.{SessionView, session_at}
use Rattle.debugging.specs.Answers.{IsAnswered}

-- a session, the text that was sent last, whether packets are acknowledged, and whether gdb has gone
pub record ConversationView : Type 0 where
  pub session : SessionView
  pub last : List ℕ
  pub acknowledges : Bool
  pub is_over : Bool

-- what has come of gdb's stream, and what was made of it
pub record DialogueView : Type 0 where
  pub feed : Unread
  pub conversation : ConversationView

-- before anything is said
abbrev pub conversation_at : LineView → ConversationView
conversation_at line = record { session = session_at line; last = []; acknowledges = true; is_over = false }

-- this byte, where packets are acknowledged
abbrev pub sign : ConversationView → ℕ → List ℕ
sign c byte = if c.acknowledges then byte ∷ [] else []

-- the packet that says it
abbrev pub packet_of : Answer → List ℕ
packet_of (Says text) = spelling text.items
packet_of (SaysLast text) = spelling text.items
packet_of Over = []

-- what was sent last, once this is answered
abbrev pub last_of : Answer → List ℕ → List ℕ
last_of Over last = last
last_of (Says text) last = spelling text.items
last_of (SaysLast text) last = spelling text.items

-- gdb has gone then
abbrev pub is_last : Answer → Bool
is_last (Says text) = false
is_last _ = true

-- the packet is acknowledged and answered
pub record HearsPacket (packet : List ℕ) (c d : ConversationView) (said : List ℕ) : Type 0 where
  pub told : Answer
  pub answered : IsAnswered packet c.session d.session told
  pub said_is : said ≡ sign c 43 ++ packet_of told
  pub last : d.last ≡ last_of told c.last
  pub quiet : packet ≡ codes "QStartNoAckMode" → d.acknowledges ≡ false
  pub other : (packet ≡ codes "QStartNoAckMode" → ⊥) → d.acknowledges ≡ c.acknowledges
  pub over : d.is_over ≡ (is_last told || c.is_over)

-- what is said to what gdb sends, and the conversation before and behind it
abbrev pub Hears : Event → ConversationView → ConversationView → List ℕ → Type 0
Hears (event.Packet packet) c d said = HearsPacket packet c d said
Hears event.Broken c d said = (d ≡ c) × (said ≡ sign c 45)
Hears event.Again c d said = (d ≡ c) × (said ≡ c.last)
Hears event.Heard c d said = (d ≡ c) × (said ≡ [])
Hears event.Interrupt c d said = (d ≡ c) × (said ≡ [])

-- the same until gdb has gone; then nothing is said
pub record HearsNext (e : Event) (c d : ConversationView) (said : List ℕ) : Type 0 where
  pub there : c.is_over ≡ false → Hears e c d said
  pub gone : c.is_over ≡ true → (d ≡ c) × (said ≡ [])

-- what is said to all of these, one behind another
pub data Talks (c : ConversationView) : List Event → ConversationView → List ℕ → Type 0 where
  Begins : Talks c [] c []
  GoesOn : {events : List Event} {d : ConversationView} {said : List ℕ} (e : Event) (next : ConversationView) (more : List ℕ) → Talks c events d said →
      HearsNext e d next more → Talks c (events ++ e ∷ []) next (said ++ more)

-- the next piece of a stream, of which these events were given, has come, and this is said to what it completes
pub record HasHeard (stream : List ℕ) (given : List Event) (piece : List ℕ) (b c : DialogueView) (said : List ℕ) : Type 0 where
  pub events : List Event
  pub follows : Follows (stream ++ piece) (given ++ events) c.feed
  pub talks : Talks b.conversation events c.conversation said
