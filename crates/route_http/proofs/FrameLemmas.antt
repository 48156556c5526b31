-- Texts that are put together one after the other.
use Rattle.std.proofs.Common.{◌≡◌, ℕ, List, [], ◌++◌, ap, ◌∙◌, append_assoc}

-- two texts at the end of one
joined : (old a b mid new : List ℕ) → mid ≡ old ++ a → new ≡ mid ++ b → new ≡ old ++ (a ++ b)
joined old a b mid new first second = second ∙ ap (λ (t : List ℕ). t ++ b) first ∙ append_assoc old a b

-- three texts at the end of one
pub three_joined : (old a b c x y new : List ℕ) → x ≡ old ++ a → y ≡ x ++ b → new ≡ y ++ c → new ≡ old ++ (a ++ (b ++ c))
three_joined old a b c x y new first second third =
    joined old a (b ++ c) x new first (joined x b c y new second third)

-- six texts at the end of nothing
pub six_joined : (a b c d e f t u v w x new : List ℕ) → t ≡ [] ++ a → u ≡ t ++ b → v ≡ u ++ c → w ≡ v ++ d → x ≡ w ++ e → new ≡ x ++ f
    → new ≡ a ++ (b ++ (c ++ (d ++ (e ++ f))))
six_joined a b c d e f t u v w x new first second third fourth fifth sixth =
    joined [] a (b ++ (c ++ (d ++ (e ++ f)))) t new first
    (joined t b (c ++ (d ++ (e ++ f))) u new second
    (joined u c (d ++ (e ++ f)) v new third (three_joined v d e f w x new fourth fifth sixth)))
