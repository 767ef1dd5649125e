-- The three-way answer at two numbers.
use Rattle.std.proofs.Common.{◌≡◌, ℕ, ◌<◌, Less, Equal, arith}
use Rattle.std.proofs.lemmas.Bool.Decides.{nat_tests}
use Rattle.std.specs.Ordering.{ordering_reverse, nat_cmp}

pub number_flip : (m n : ℕ) → nat_cmp n m ≡ ordering_reverse (nat_cmp m n)
number_flip m n = grind (arith, nat_tests)

pub number_equal : (m n : ℕ) → nat_cmp m n ≡ Equal → m ≡ n
number_equal m n e = grind (arith, nat_tests)

pub number_less : (m n : ℕ) → nat_cmp m n ≡ Less → m < n
number_less m n e = grind (arith, nat_tests)

pub less_number : (m n : ℕ) → m < n → nat_cmp m n ≡ Less
less_number m n l = grind (arith, nat_tests)

pub same_number : (m n : ℕ) → m ≡ n → nat_cmp m n ≡ Equal
same_number m n l = grind (arith, nat_tests)
