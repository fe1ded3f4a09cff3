-- A feed's text under way, from byte to byte.
use Rattle.std.proofs.Common.{◌≡◌, ◌≢◌, ℕ, ◌+◌, ◌<◌, ◌≤◌, ◌⊎◌, inl, inr, List, [], ◌∷◌, ◌++◌, Option, length, refl, sym, ap, ◌∙◌, subst, take, get_or, append_assoc, arith}
use Rattle.std.proofs.lemmas.Bool.{cases_eq}
use Rattle.std.proofs.lemmas.List.{append-nil, take_more}
use Rattle.std.proofs.lemmas.List.Concat.{flat_map-append}
use Rattle.std.specs.List.{flat_map, AllByRecursion}
use Rattle.std.specs.Option.{option_to_list}
use Rattle.gdb_packets.specs.declared.event.Event.{Event}
use Rattle.gdb_packets.specs.declared.event.Event.TheVariants as event
use Rattle.gdb_packets.specs.declared.spelling.TheConstants.{TEXT_LIMIT}
use Rattle.gdb_packets.specs.Packets.{IsPacket, spelling}
use Rattle.gdb_packets.specs.declared.feed.Place.{Place}
use Rattle.gdb_packets.specs.declared.feed.Place.TheVariants.{Between, Body, Sum, LastDigit}
use Rattle.gdb_packets.specs.Streams.{Item, Byte, Packet, Broken, IsItem, IsBody, IsHeld, Unread, Follows, begun, text_of, events_of, framed, mark}
use Rattle.gdb_packets.specs.machinery.Steps.{place_after, IsInside, Says}

all_more : {A : Type 0} (P : A → Type 0) (xs : List A) (x : A) → AllByRecursion P xs → P x → AllByRecursion P (xs ++ x ∷ [])
all_more P [] x all one = (one, tt)
all_more P (y ∷ ys) x all one = (all.0, all_more P ys x all.1 one)

-- a byte that ends an item
pub follows_item : (stream : List ℕ) (given : List Event) (feed : Unread) (b : ℕ) (i : Item) (text : List ℕ) (f : Follows stream given feed) →
    IsItem i → text_of i ≡ f.rest ++ b ∷ [] → text ≡ [] →
    Follows (stream ++ b ∷ []) (given ++ events_of i) (record { place = Between; text = text })
follows_item stream given feed b i text f is_item text_is none =
    let texts : flat_map text_of (f.items ++ i ∷ []) ≡ flat_map text_of f.items ++ text_of i =
    flat_map-append text_of f.items (i ∷ []) ∙ ap (λ (t : List ℕ). flat_map text_of f.items ++ t) (append-nil (text_of i)) in
    let events : flat_map events_of (f.items ++ i ∷ []) ≡ flat_map events_of f.items ++ events_of i =
    flat_map-append events_of f.items (i ∷ []) ∙ ap (λ (t : List Event). flat_map events_of f.items ++ t) (append-nil (events_of i)) in
    record {
      items = f.items ++ i ∷ [];
      body = [];
      rest = [];
      stream_is =
          ap (λ (t : List ℕ). t ++ b ∷ []) f.stream_is ∙ append_assoc (flat_map text_of f.items) f.rest (b ∷ [])
          ∙ ap (λ (t : List ℕ). flat_map text_of f.items ++ t) (sym text_is) ∙ sym texts ∙ sym (append-nil (flat_map text_of (f.items ++ i ∷ [])));
      each = all_more IsItem f.items i f.each is_item;
      given_are = ap (λ (t : List Event). t ++ events_of i) f.given_are ∙ sym events;
      begun_is = refl;
      plain = tt;
      held = inl none;
    }

-- another byte of a text under way
pub follows_on : (stream : List ℕ) (given : List Event) (feed : Unread) (b : ℕ) (place : Place) (body text : List ℕ) (f : Follows stream given feed) →
    begun place body (f.rest ++ b ∷ []) → IsBody body → IsHeld (f.rest ++ b ∷ []) text →
    Follows (stream ++ b ∷ []) (given ++ []) (record { place = place; text = text })
follows_on stream given feed b place body text f begun_is plain held = record {
  items = f.items;
  body = body;
  rest = f.rest ++ b ∷ [];
  stream_is = ap (λ (t : List ℕ). t ++ b ∷ []) f.stream_is ∙ append_assoc (flat_map text_of f.items) f.rest (b ∷ []);
  each = f.each;
  given_are = append-nil given ∙ f.given_are;
  begun_is = begun_is;
  plain = plain;
  held = held;
}

-- nothing is held between packets
between_none : (feed : Unread) (rest : List ℕ) → rest ≡ [] → IsHeld rest feed.text → feed.text ≡ []
between_none feed rest none (inl is) = is ∙ none
between_none feed rest none (inr long) = absurd (omega (arith, ap length none, long.0))

-- a byte between packets
pub follows_byte : (stream : List ℕ) (given : List Event) (feed : Unread) (b : ℕ) → feed.place ≡ Between → b ≢ 36 → Follows stream given feed →
    Follows (stream ++ b ∷ []) (given ++ option_to_list (mark b)) feed
follows_byte stream given feed b place other f =
    let none : f.rest ≡ [] = (rw place at f.begun_is) in
    let kept : record { place = Between; text = feed.text } ≡ feed = ap (λ (p : Place). record { place = p; text = feed.text }) (sym place) in
    subst (λ (u : Unread). Follows (stream ++ b ∷ []) (given ++ option_to_list (mark b)) u) kept
    (follows_item stream given feed b (Byte b) feed.text f other (ap (λ (t : List ℕ). t ++ b ∷ []) (sym none)) (between_none feed f.rest none f.held))

-- the beginning of a text
pub follows_begin : (stream : List ℕ) (given : List Event) (feed : Unread) (text : List ℕ) → feed.place ≡ Between →
    ((rest : List ℕ) → IsHeld rest feed.text → IsHeld (rest ++ 36 ∷ []) text) → Follows stream given feed →
    Follows (stream ++ 36 ∷ []) (given ++ []) (record { place = Body; text = text })
follows_begin stream given feed text place holds f =
    let none : f.rest ≡ [] = (rw place at f.begun_is) in
    follows_on stream given feed 36 Body [] text f (ap (λ (t : List ℕ). t ++ 36 ∷ []) none) tt (holds f.rest f.held)

-- where the byte leads inside a text
inside_body : (stream : List ℕ) (given : List Event) (feed : Unread) (b : ℕ) (text : List ℕ) → feed.place ≡ Body →
    (f : Follows stream given feed) → IsHeld (f.rest ++ b ∷ []) text → (b ≡ 35) ⊎ (b ≡ 35 → ⊥) →
    Follows (stream ++ b ∷ []) (given ++ []) (record { place = place_after feed.place b; text = text })
inside_body stream given feed b text place f held (inl is) =
    let rest : f.rest ≡ 36 ∷ f.body = (rw place at f.begun_is) in
    rw (place, is) (follows_on stream given feed 35 Sum f.body text f (ap (λ (t : List ℕ). t ++ 35 ∷ []) rest) f.plain (rw is at held))
inside_body stream given feed b text place f held (inr other) =
    let rest : f.rest ≡ 36 ∷ f.body = (rw place at f.begun_is) in
    let stays : place_after Body b ≡ Body = grind arith in
    rw (place, stays) (follows_on stream given feed b Body (f.body ++ b ∷ []) text f (ap (λ (t : List ℕ). t ++ b ∷ []) rest) (all_more (λ c. c ≢ 35) f.body b f.plain other) held)

pub follows_inside : (stream : List ℕ) (given : List Event) (feed : Unread) (b : ℕ) (text : List ℕ) → IsInside feed.place →
    ((rest : List ℕ) → IsHeld rest feed.text → IsHeld (rest ++ b ∷ []) text) → Follows stream given feed →
    Follows (stream ++ b ∷ []) (given ++ []) (record { place = place_after feed.place b; text = text })
follows_inside stream given feed b text (inl place) holds f = inside_body stream given feed b text place f (holds f.rest f.held) (cases_eq b 35)
follows_inside stream given feed b text (inr place) holds f =
    let rest : f.rest ≡ 36 ∷ f.body ++ 35 ∷ [] = (rw place at f.begun_is) in
    let more : f.rest ++ b ∷ [] ≡ 36 ∷ f.body ++ 35 ∷ b ∷ [] =
    ap (λ (t : List ℕ). t ++ b ∷ []) rest ∙ ap (λ (t : List ℕ). 36 ∷ t) (append_assoc f.body (35 ∷ []) (b ∷ [])) in
    rw place (follows_on stream given feed b LastDigit f.body text f (b, more) f.plain (holds f.rest f.held))

-- the last byte of a text
pub follows_last : (stream : List ℕ) (given : List Event) (feed : Unread) (b : ℕ) (held text : List ℕ) (event : Event) → feed.place ≡ LastDigit →
    ((rest : List ℕ) → IsHeld rest feed.text → IsHeld (rest ++ b ∷ []) held) →
    ((body digits : List ℕ) → IsBody body → length digits ≡ 2 → IsHeld (framed body digits) held → Says (framed body digits) event) →
    text ≡ [] → Follows stream given feed →
    Follows (stream ++ b ∷ []) (given ++ event ∷ []) (record { place = Between; text = text })
follows_last stream given feed b held text event place holds says none f =
    let begun_is : (digit : ℕ) × (f.rest ≡ 36 ∷ f.body ++ 35 ∷ digit ∷ []) = (rw place at f.begun_is) in
    let digits = begun_is.0 ∷ b ∷ [] in
    let rest : f.rest ++ b ∷ [] ≡ framed f.body digits =
    ap (λ (t : List ℕ). t ++ b ∷ []) begun_is.1 ∙ ap (λ (t : List ℕ). 36 ∷ t) (append_assoc f.body (35 ∷ begun_is.0 ∷ []) (b ∷ [])) in
    let said : Says (framed f.body digits) event = says f.body digits f.plain refl (subst (λ (t : List ℕ). IsHeld t held) rest (holds f.rest f.held)) in
    subst (λ (es : List Event). Follows (stream ++ b ∷ []) (given ++ es) (record { place = Between; text = text })) said.3
    (follows_item stream given feed b said.0 text f said.1 (said.2 ∙ sym rest) none)

-- the loop's turn
pub follows_more : (stream piece : List ℕ) (given events more : List Event) (feed after : Unread) (i : ℕ) (r : Option Event) → i < length piece →
    ((before : List ℕ) (told : List Event) → Follows before told feed → Follows (before ++ get_or piece i 0 ∷ []) (told ++ option_to_list r) after) →
    more ≡ events ++ option_to_list r → Follows (stream ++ take i piece) (given ++ events) feed →
    Follows (stream ++ take (i + 1) piece) (given ++ more) after
follows_more stream piece given events more feed after i r h taken is f =
    let bytes : (stream ++ take i piece) ++ get_or piece i 0 ∷ [] ≡ stream ++ take (i + 1) piece =
    append_assoc stream (take i piece) (get_or piece i 0 ∷ []) ∙ ap (λ (t : List ℕ). stream ++ t) (sym (take_more piece i 0 h)) in
    let told : (given ++ events) ++ option_to_list r ≡ given ++ more =
    append_assoc given events (option_to_list r) ∙ ap (λ (t : List Event). given ++ t) (sym is) in
    subst (λ (t : List ℕ). Follows t (given ++ more) after) bytes
    (subst (λ (t : List Event). Follows ((stream ++ take i piece) ++ get_or piece i 0 ∷ []) t after) told (taken (stream ++ take i piece) (given ++ events) f))

-- ---- whole texts

pub says_packet : (text held bytes : List ℕ) → IsHeld text held → IsPacket held bytes → Says text (event.Packet bytes)
says_packet text held bytes (inl is) packet =
    let short : length (spelling bytes) ≤ TEXT_LIMIT = subst (λ (t : List ℕ). length t ≤ TEXT_LIMIT) packet.1 packet.0 in
    (Packet bytes, (short, refl), sym packet.1 ∙ is, refl)
says_packet text held bytes (inr long) packet = absurd (omega (arith, long.1, packet.0))

pub says_broken : (body digits held : List ℕ) → IsHeld (framed body digits) held → IsBody body → length digits ≡ 2 →
    ((bytes : List ℕ) → IsPacket held bytes → ⊥) → Says (framed body digits) event.Broken
says_broken body digits held (inl is) plain two none = (Broken body digits, (plain, two, λ bytes packet. none bytes (rw is packet)), refl, refl)
says_broken body digits held (inr long) plain two none =
    (Broken body digits, (plain, two, λ bytes packet. absurd (omega (arith, long.0, packet.0))), refl, refl)
