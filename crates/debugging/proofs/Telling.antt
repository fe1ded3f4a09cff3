-- What queries are told.
use Rattle.std.proofs.Common.{◌≡◌, ◌⊎◌, inl, inr, ℕ, List, ◌++◌, get_or, sym, ap, ◌∙◌, arith, Result, Ok, Err, IfOk}
use Rattle.std.specs.Prelude.{codes}
use Rattle.debugging.specs.Queries.{AsksForConstant, AsksForText, supported}
use Rattle.debugging.specs.Sessions.{SessionView}
use Rattle.debugging.specs.declared.session.Answer.{Answer}
use Rattle.debugging.specs.declared.commands.Command.TheVariants as command
use Rattle.debugging.specs.declared.commands.Other.TheVariants.{Query}
use Rattle.debugging.specs.Answers.{Says, Answers}

-- the answer to a query is what the query asks for
pub told_answer : {E : Type 0} (r : Result Answer E) (packet : List ℕ) (s t : SessionView) → ((text : List ℕ) → AsksForText packet s text → t ≡ s) →
    ((text : List ℕ) → AsksForText packet s text → IfOk r (Says text)) → IfOk r (Answers packet (command.Other Query) s t)
told_answer (Ok a) packet s t still told = λ text asks. (still text asks, told text asks)
told_answer (Err e) packet s t still told = tt

-- no text is two that differ somewhere
other_text : (query these those : List ℕ) (i : ℕ) → query ≡ these → query ≡ those → (get_or these i 0 ≡ get_or those i 0 → ⊥) → ⊥
other_text query these those i is are differ = differ (ap (λ (t : List ℕ). get_or t i 0) (sym is ∙ are))

-- what asks for no acknowledgement is told that
pub quiet_told : (query text : List ℕ) → query ≡ codes "QStartNoAckMode" → AsksForConstant query text → codes "OK" ≡ text
quiet_told query text is (inl asks) = sym asks.1
quiet_told query text is (inr (inl asks)) = absurd (other_text query (codes "QStartNoAckMode") (codes "qsThreadInfo") 0 is asks.0 (λ (e : 81 ≡ 113). omega (arith, e)))
quiet_told query text is (inr (inr (inl asks))) = absurd (other_text query (codes "QStartNoAckMode") (codes "qAttached") 0 is asks.0 (λ (e : 81 ≡ 113). omega (arith, e)))
quiet_told query text is (inr (inr (inr asks))) = absurd (other_text query (codes "QStartNoAckMode") (codes "qSupported" ++ asks.0) 0 is asks.1 (λ (e : 81 ≡ 113). omega (arith, e)))

-- what asks for further threads is told that there are none
pub last_told : (query text : List ℕ) → query ≡ codes "qsThreadInfo" → AsksForConstant query text → codes "l" ≡ text
last_told query text is (inl asks) = absurd (other_text query (codes "qsThreadInfo") (codes "QStartNoAckMode") 0 is asks.0 (λ (e : 113 ≡ 81). omega (arith, e)))
last_told query text is (inr (inl asks)) = sym asks.1
last_told query text is (inr (inr (inl asks))) = absurd (other_text query (codes "qsThreadInfo") (codes "qAttached") 1 is asks.0 (λ (e : 115 ≡ 65). omega (arith, e)))
last_told query text is (inr (inr (inr asks))) = absurd (other_text query (codes "qsThreadInfo") (codes "qSupported" ++ asks.0) 1 is asks.1 (λ (e : 115 ≡ 83). omega (arith, e)))

-- what asks whether a process is attached is told that
pub attached_told : (query text : List ℕ) → query ≡ codes "qAttached" → AsksForConstant query text → codes "1" ≡ text
attached_told query text is (inl asks) = absurd (other_text query (codes "qAttached") (codes "QStartNoAckMode") 0 is asks.0 (λ (e : 113 ≡ 81). omega (arith, e)))
attached_told query text is (inr (inl asks)) = absurd (other_text query (codes "qAttached") (codes "qsThreadInfo") 1 is asks.0 (λ (e : 65 ≡ 115). omega (arith, e)))
attached_told query text is (inr (inr (inl asks))) = sym asks.1
attached_told query text is (inr (inr (inr asks))) = absurd (other_text query (codes "qAttached") (codes "qSupported" ++ asks.0) 1 is asks.1 (λ (e : 65 ≡ 83). omega (arith, e)))

-- what is none of these asks what a session can
pub abilities_told : (query text told : List ℕ) → (query ≡ codes "QStartNoAckMode" → ⊥) → (query ≡ codes "qsThreadInfo" → ⊥) → (query ≡ codes "qAttached" → ⊥) →
    ((rest : List ℕ) → query ≡ codes "qSupported" ++ rest → told ≡ supported) → AsksForConstant query text → told ≡ text
abilities_told query text told quiet last attached can (inl asks) = absurd (quiet asks.0)
abilities_told query text told quiet last attached can (inr (inl asks)) = absurd (last asks.0)
abilities_told query text told quiet last attached can (inr (inr (inl asks))) = absurd (attached asks.0)
abilities_told query text told quiet last attached can (inr (inr (inr asks))) = can asks.0 asks.1 ∙ sym asks.2
