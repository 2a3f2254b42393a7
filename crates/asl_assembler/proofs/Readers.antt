-- What reads a word as a token, and rows of words read so.
use Rattle.std.proofs.Common.{◌≡◌, ℕ, ℤ, List, [], ◌∷◌, Option, Some, refl, ap}
use Rattle.asl_code.specs.declared.value.Effect.{Effect}
use Rattle.asl_assembler.specs.declared.keyword.Keyword.{Keyword}
use Rattle.asl_assembler.specs.Words.{Token, Name, Byte, Short, Integer, Register, GlobalName, IsWord, AreWords, name_of}
use Rattle.asl_assembler.specs.Text.{effect_token}
use Rattle.asl_assembler.specs.Reading.{◌>>=◌, number_of, register_of, global_of, integer_of, effect_of, no_word, one, two, three}
use Rattle.asl_assembler.proofs.Options.{bound}
use Rattle.asl_assembler.proofs.Numbers.{number_read, read_number, marked_read, read_marked, integer_read, read_integer}
use Rattle.asl_assembler.proofs.Keywords.{effect_read, read_effect}

pub record Reader (A : Type 0) : Type 0 where
  pub token : A → Token
  pub read : List ℕ → Option A
  pub reads : (word : List ℕ) (x : A) → IsWord (token x) word → read word ≡ Some x
  pub is_read : (word : List ℕ) (x : A) → read word ≡ Some x → IsWord (token x) word

abbrev pub byte : Reader ℕ
byte = record { token = Byte; read = number_of 256; reads = number_read 256; is_read = read_number 256 }

abbrev pub short : Reader ℕ
short = record { token = Short; read = number_of 65536; reads = number_read 65536; is_read = read_number 65536 }

abbrev pub integer : Reader ℤ
integer = record { token = Integer; read = integer_of; reads = integer_read; is_read = read_integer }

abbrev pub register : Reader ℕ
register = record { token = Register; read = register_of; reads = marked_read 114 256; is_read = read_marked 114 256 }

abbrev pub global : Reader ℕ
global = record { token = GlobalName; read = global_of; reads = marked_read 103 65536; is_read = read_marked 103 65536 }

abbrev pub effect : Reader Effect
effect = record { token = effect_token; read = effect_of; reads = (λ word e h. effect_read e word h); is_read = read_effect }

-- The words after a name, and what they are read as.
pub record AfterKeyword {A : Type 0} (k : Keyword) (words : List (List ℕ)) (read : List (List ℕ) → Option A) (x : A) : Type 0 where
  pub rest : List (List ℕ)
  pub split : words ≡ name_of k ∷ rest
  pub found : read rest ≡ Some x

pub reads_0 : (k : Keyword) (words : List (List ℕ)) → AreWords (Name k ∷ []) words → AfterKeyword k words no_word tt
reads_0 k [] h = absurd h
reads_0 k (a ∷ []) h = record { rest = []; split = ap (λ w. w ∷ []) h.0; found = refl }
reads_0 k (a ∷ b ∷ words) h = absurd h.1

pub reads_1 : {A : Type 0} (p : Reader A) (k : Keyword) (x : A) (words : List (List ℕ)) → AreWords (Name k ∷ p.token x ∷ []) words → AfterKeyword k words (one p.read) x
reads_1 p k x [] h = absurd h
reads_1 p k x (a ∷ []) h = absurd h.1
reads_1 p k x (a ∷ b ∷ []) h = record { rest = b ∷ []; split = ap (λ w. w ∷ b ∷ []) h.0; found = p.reads b x h.1.0 }
reads_1 p k x (a ∷ b ∷ c ∷ words) h = absurd h.1.1

pub reads_2 : {A B : Type 0} (p : Reader A) (q : Reader B) (k : Keyword) (x : A) (y : B) (words : List (List ℕ))
    → AreWords (Name k ∷ p.token x ∷ q.token y ∷ []) words → AfterKeyword k words (two p.read q.read) (x, y)
reads_2 p q k x y [] h = absurd h
reads_2 p q k x y (a ∷ []) h = absurd h.1
reads_2 p q k x y (a ∷ b ∷ []) h = absurd h.1.1
reads_2 p q k x y (a ∷ b ∷ c ∷ []) h = record { rest = b ∷ c ∷ []; split = ap (λ w. w ∷ b ∷ c ∷ []) h.0; found = rw (p.reads b x h.1.0) (rw (q.reads c y h.1.1.0) refl) }
reads_2 p q k x y (a ∷ b ∷ c ∷ d ∷ words) h = absurd h.1.1.1

pub reads_3 : {A B C : Type 0} (p : Reader A) (q : Reader B) (r : Reader C) (k : Keyword) (x : A) (y : B) (z : C) (words : List (List ℕ))
    → AreWords (Name k ∷ p.token x ∷ q.token y ∷ r.token z ∷ []) words → AfterKeyword k words (three p.read q.read r.read) (x, y, z)
reads_3 p q r k x y z [] h = absurd h
reads_3 p q r k x y z (a ∷ []) h = absurd h.1
reads_3 p q r k x y z (a ∷ b ∷ []) h = absurd h.1.1
reads_3 p q r k x y z (a ∷ b ∷ c ∷ []) h = absurd h.1.1.1
reads_3 p q r k x y z (a ∷ b ∷ c ∷ d ∷ []) h = record { rest = b ∷ c ∷ d ∷ []; split = ap (λ w. w ∷ b ∷ c ∷ d ∷ []) h.0; found = rw (p.reads b x h.1.0) (rw (q.reads c y h.1.1.0) (rw (r.reads d z h.1.1.1.0) refl)) }
reads_3 p q r k x y z (a ∷ b ∷ c ∷ d ∷ e ∷ words) h = absurd h.1.1.1.1

pub is_read_0 : (k : Keyword) (words : List (List ℕ)) (x : Unit {0}) → no_word words ≡ Some x → AreWords (Name k ∷ []) (name_of k ∷ words)
is_read_0 k [] x e = (refl, tt)
is_read_0 k (a ∷ words) x e = absurd (cc)

pub is_read_1 : {A : Type 0} (p : Reader A) (k : Keyword) (words : List (List ℕ)) (x : A) → one p.read words ≡ Some x → AreWords (Name k ∷ p.token x ∷ []) (name_of k ∷ words)
is_read_1 p k [] x e = absurd (cc)
is_read_1 p k (a ∷ []) x e = (refl, (p.is_read a x e, tt))
is_read_1 p k (a ∷ b ∷ words) x e = absurd (cc)

pub is_read_2 : {A B : Type 0} (p : Reader A) (q : Reader B) (k : Keyword) (words : List (List ℕ)) (x : A × B) → two p.read q.read words ≡ Some x
    → AreWords (Name k ∷ p.token x.0 ∷ q.token x.1 ∷ []) (name_of k ∷ words)
is_read_2 p q k [] x e = absurd (cc)
is_read_2 p q k (a ∷ []) x e = absurd (cc)
is_read_2 p q k (a ∷ b ∷ []) x e =
    let s = bound (p.read a) (λ v. q.read b >>= λ w. Some (v, w)) x e in
    let t = bound (q.read b) (λ w. Some (s.0, w)) x s.2 in
    let first : p.read a ≡ Some x.0 = cc in
    let second : q.read b ≡ Some x.1 = cc in
    (refl, (p.is_read a x.0 first, (q.is_read b x.1 second, tt)))
is_read_2 p q k (a ∷ b ∷ c ∷ words) x e = absurd (cc)

pub is_read_3 : {A B C : Type 0} (p : Reader A) (q : Reader B) (r : Reader C) (k : Keyword) (words : List (List ℕ)) (x : A × B × C) → three p.read q.read r.read words ≡ Some x
    → AreWords (Name k ∷ p.token x.0 ∷ q.token x.1 ∷ r.token x.2 ∷ []) (name_of k ∷ words)
is_read_3 p q r k [] x e = absurd (cc)
is_read_3 p q r k (a ∷ []) x e = absurd (cc)
is_read_3 p q r k (a ∷ b ∷ []) x e = absurd (cc)
is_read_3 p q r k (a ∷ b ∷ c ∷ []) x e =
    let s = bound (p.read a) (λ u. q.read b >>= λ v. r.read c >>= λ w. Some (u, v, w)) x e in
    let t = bound (q.read b) (λ v. r.read c >>= λ w. Some (s.0, v, w)) x s.2 in
    let u = bound (r.read c) (λ w. Some (s.0, t.0, w)) x t.2 in
    let first : p.read a ≡ Some x.0 = cc in
    let second : q.read b ≡ Some x.1 = cc in
    let third : r.read c ≡ Some x.2 = cc in
    (refl, (p.is_read a x.0 first, (q.is_read b x.1 second, (r.is_read c x.2 third, tt))))
is_read_3 p q r k (a ∷ b ∷ c ∷ d ∷ words) x e = absurd (cc)
