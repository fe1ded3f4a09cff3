-- A frame is its head, its body and its digest.
use Rattle.std.proofs.Common.{◌≡◌, ℕ, ◌-◌, List, [], ◌++◌, length, take, drop, refl, sym, ap, ◌∙◌}
use Rattle.std.proofs.lemmas.List.{drop_at}
use Rattle.fragment_codec.specs.Streams.{HasDigest}
use Rattle.sha2.specs.Sha256.{sha256}
use Rattle.fragment_codec.specs.Spelling.{headed, sealed}

pub sealed_parts : (head slice body digest : List ℕ) (version kind : ℕ) → head ++ body ≡ headed version kind body → slice ≡ head →
    digest ≡ sha256 (([] ++ slice) ++ body) → (head ++ body) ++ digest ≡ sealed (headed version kind body)
unfolding sealed
sealed_parts head slice body digest version kind h s d =
    ap (λ (x : List ℕ). (head ++ body) ++ x) (d ∙ ap (λ (x : List ℕ). sha256 (x ++ body)) s) ∙ ap (λ (x : List ℕ). x ++ sha256 x) h

pub seal_is : (bytes front seal : List ℕ) → bytes ≡ front ++ seal → front ≡ take (length bytes - 32) bytes → seal ≡ sha256 front → HasDigest bytes
unfolding sealed
seal_is bytes front seal parts f s = parts ∙ ap (λ (x : List ℕ). front ++ x) s ∙ ap (λ (x : List ℕ). x ++ sha256 x) f

pub seal_back : (bytes front seal : List ℕ) → bytes ≡ front ++ seal → front ≡ take (length bytes - 32) bytes → HasDigest bytes → seal ≡ sha256 front
unfolding sealed
seal_back bytes front seal parts f h =
    let e : front ++ seal ≡ front ++ sha256 front = sym parts ∙ h ∙ ap (λ (x : List ℕ). x ++ sha256 x) (sym f) in
    sym (drop_at front seal (length front) refl) ∙ ap (drop (length front)) e ∙ drop_at front (sha256 front) (length front) refl
