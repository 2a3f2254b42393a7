-- What is said of a value that was made, said otherwise.
use Rattle.std.proofs.Common.{Result, Ok, Err, IfOk}

pub said : {T E : Type 0} (r : Result T E) (P Q : T → Type 0) → ((t : T) → P t → Q t) → IfOk r P → IfOk r Q
said (Ok t) P Q more h = more t h
said (Err e) P Q more h = h
