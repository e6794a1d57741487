-- A number as a set of parties: bit i of a mask stands for party i + 1. Party 0 is nobody.
use Rattle.std.specs.Prelude.{Bool, false, cond, ℕ, zero, suc, ◌-◌, ◌/◌, ◌%◌, ◌^◌, eqb}
use Rattle.std.specs.Int.Bits.{bit_or, bit_xor}
use Rattle.std.specs.Int.Count.{ones}
use Rattle.lists.specs.Tests.{each}

-- the party is in the mask
unfoldable pub has : ℕ → ℕ → Bool
has mask zero = false
has mask (suc i) = eqb (mask / 2 ^ i % 2) 1

-- the mask with the party in it
unfoldable pub with : ℕ → ℕ → ℕ
with mask zero = mask
with mask (suc i) = bit_or mask (2 ^ i)

-- the mask without the party
unfoldable pub without : ℕ → ℕ → ℕ
unfolding has
without mask zero = mask
without mask (suc i) = cond (has mask (suc i)) (bit_xor mask (2 ^ i)) mask

-- the mask with the party in it or not: a bit written to 1 or to 0
unfoldable pub put : ℕ → ℕ → Bool → ℕ
unfolding with without
put mask party on = cond on (with mask party) (without mask party)

-- the mask of parties 1 to n
unfoldable pub all : ℕ → ℕ
all n = 2 ^ n - 1

-- each of parties 1 to n is in the mask
unfoldable pub has_all : ℕ → ℕ → Bool
unfolding each has
has_all n mask = each n (has mask)

-- how many parties are in the mask
unfoldable pub count : ℕ → ℕ
unfolding ones
count mask = ones mask
