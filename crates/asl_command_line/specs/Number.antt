-- Numbers as words: decimal digits, one or more, of a number below 2^32.
use Rattle.std.specs.Prelude.{◌≡◌, ℕ, ◌<◌, ◌^◌, List, map}
use Rattle.std.specs.List.{All}
use Rattle.std.specs.Str.Parse.{IsNumeral, digits_value}

-- the text is a number
pub record IsNumeric (text : List ℕ) : Type 0 where
  pub digits : IsNumeral 10 text
  pub small : digits_value 10 text < 2 ^ 32

-- the text is this number
pub record IsNumber (text : List ℕ) (number : ℕ) : Type 0 where
  pub numeric : IsNumeric text
  pub value : number ≡ digits_value 10 text

-- the texts are these numbers, one by one
pub record AreNumbers (texts : List (List ℕ)) (numbers : List ℕ) : Type 0 where
  pub numeric : All IsNumeric texts
  pub values : numbers ≡ map (digits_value 10) texts
