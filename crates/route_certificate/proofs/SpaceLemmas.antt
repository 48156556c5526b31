-- Facts of what a call gives, taken together.
use Rattle.std.proofs.Common.{Result, Ok, Err, IfOk}

-- two facts make a third
pub both-ok : {A E : Type 0} {P Q R : A → Type 0} → ((a : A) → P a → Q a → R a) → (answer : Result A E) →
    IfOk answer P → IfOk answer Q → IfOk answer R
both-ok make (Ok a) p q = make a p q
both-ok make (Err e) p q = _

-- three facts make a fourth
pub three-ok : {A E : Type 0} {P Q R T : A → Type 0} → ((a : A) → P a → Q a → R a → T a) → (answer : Result A E) →
    IfOk answer P → IfOk answer Q → IfOk answer R → IfOk answer T
three-ok make (Ok a) p q r = make a p q r
three-ok make (Err e) p q r = _
