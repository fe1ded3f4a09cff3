-- Rows that were taken from the end, one after the other.
use Rattle.std.proofs.Common.{◌≡◌, List, [], ◌∷◌, ◌++◌, ap, ◌∙◌, append_assoc}

pub two_last : {Row : Type 0} (rows r s : List Row) (a b : Row) → rows ≡ r ++ b ∷ [] → r ≡ s ++ a ∷ [] → rows ≡ s ++ a ∷ b ∷ []
two_last {Row} rows r s a b p q = p ∙ ap (λ (x : List Row). x ++ b ∷ []) q ∙ append_assoc s (a ∷ []) (b ∷ [])

pub five_last : {Row : Type 0} (rows r s t u v : List Row) (a b c d e : Row) → rows ≡ r ++ e ∷ [] → r ≡ s ++ d ∷ [] → s ≡ t ++ c ∷ [] → t ≡ u ++ b ∷ [] →
    u ≡ v ++ a ∷ [] → rows ≡ v ++ a ∷ b ∷ c ∷ d ∷ e ∷ []
five_last {Row} rows r s t u v a b c d e p q x y z =
    let front : t ≡ v ++ a ∷ b ∷ [] = two_last t u v a b y z in
    let more : s ≡ v ++ a ∷ b ∷ c ∷ [] = x ∙ ap (λ (w : List Row). w ++ c ∷ []) front ∙ append_assoc v (a ∷ b ∷ []) (c ∷ []) in
    let most : r ≡ v ++ a ∷ b ∷ c ∷ d ∷ [] = q ∙ ap (λ (w : List Row). w ++ d ∷ []) more ∙ append_assoc v (a ∷ b ∷ c ∷ []) (d ∷ []) in
    p ∙ ap (λ (w : List Row). w ++ e ∷ []) most ∙ append_assoc v (a ∷ b ∷ c ∷ d ∷ []) (e ∷ [])
