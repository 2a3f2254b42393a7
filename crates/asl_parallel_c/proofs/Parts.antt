-- Parts of a text that are added one after the other.
use Rattle.std.proofs.Common.{◌≡◌, ℕ, List, ◌++◌, ap, ◌∙◌, append_assoc}

pub two_parts : (old m new a b : List ℕ) → m ≡ old ++ a → new ≡ m ++ b → new ≡ old ++ (a ++ b)
two_parts old m new a b e f = f ∙ ap (λ (t : List ℕ). t ++ b) e ∙ append_assoc old a b

pub three_parts : (old m n new a b c : List ℕ) → m ≡ old ++ a → n ≡ m ++ b → new ≡ n ++ c → new ≡ old ++ (a ++ (b ++ c))
three_parts old m n new a b c e f g = two_parts old m new a (b ++ c) e (two_parts m n new b c f g)

pub four_parts : (old m n o new a b c d : List ℕ) → m ≡ old ++ a → n ≡ m ++ b → o ≡ n ++ c → new ≡ o ++ d → new ≡ old ++ (a ++ (b ++ (c ++ d)))
four_parts old m n o new a b c d e f g h = two_parts old m new a (b ++ (c ++ d)) e (three_parts m n o new b c d f g h)

pub five_parts : (old m n o p new a b c d k : List ℕ) → m ≡ old ++ a → n ≡ m ++ b → o ≡ n ++ c → p ≡ o ++ d → new ≡ p ++ k
    → new ≡ old ++ (a ++ (b ++ (c ++ (d ++ k))))
five_parts old m n o p new a b c d k e f g h i = two_parts old m new a (b ++ (c ++ (d ++ k))) e (four_parts m n o p new b c d k f g h i)

pub six_parts : (old m n o p q new a b c d k l : List ℕ) → m ≡ old ++ a → n ≡ m ++ b → o ≡ n ++ c → p ≡ o ++ d → q ≡ p ++ k → new ≡ q ++ l
    → new ≡ old ++ (a ++ (b ++ (c ++ (d ++ (k ++ l)))))
six_parts old m n o p q new a b c d k l e f g h i j = two_parts old m new a (b ++ (c ++ (d ++ (k ++ l)))) e (five_parts m n o p q new b c d k l f g h i j)

pub seven_parts : (old m n o p q r new a b c d k l s : List ℕ) → m ≡ old ++ a → n ≡ m ++ b → o ≡ n ++ c → p ≡ o ++ d → q ≡ p ++ k → r ≡ q ++ l → new ≡ r ++ s
    → new ≡ old ++ (a ++ (b ++ (c ++ (d ++ (k ++ (l ++ s))))))
seven_parts old m n o p q r new a b c d k l s e f g h i j z = two_parts old m new a (b ++ (c ++ (d ++ (k ++ (l ++ s))))) e (six_parts m n o p q r new b c d k l s f g h i j z)
