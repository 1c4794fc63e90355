-- Quotients rounded up, and products of a part and a minute.
use Rattle.std.proofs.Common.{ℕ, ◌+◌, ◌*◌, ◌<◌, ◌≤◌, ℤ, pos, negsuc, neg_ℤ, ◌+ℤ◌, ◌-ℤ◌, ◌*ℤ◌, ◌≤ℤ◌, ◌<ℤ◌, arith}
use Rattle.std.specs.Int.{int_div_euclid}
use Rattle.std.proofs.lemmas.Int.{ints}
use borrow.Author.Differences.{up, down}
use Rattle.fixed_interval.proofs.Whole.{div-parts}
use Rattle.plane_edges.proofs.Products.{less_of_times, neg_mul, order_of_times, times_mono}
use Rattle.night_portion.specs.Bounds.{IsShare, IsWithinTwoNights, ceiling}

-- the number times b reaches n, and one less doesn't
pub record IsCeiling (n b c : ℤ) : Type 0 where
  pub reaches : n ≤ℤ (c *ℤ b)
  pub least : (c *ℤ b) <ℤ (n +ℤ b)

negated_is : (n q : ℤ) (k : ℕ) → (up q * k + down (neg_ℤ n) ≤ down q * k + up (neg_ℤ n)) × (down q * k + up (neg_ℤ n) < up q * k + down (neg_ℤ n) + k) → IsCeiling n (pos k) (neg_ℤ q)
negated_is n q k d = record {
  reaches = rw (neg_mul q (pos k)) (omega (arith, ints, d.0));
  least = rw (neg_mul q (pos k)) (omega (arith, ints, d.1));
}

pub ceiling_is : (n b : ℤ) → pos 1 ≤ℤ b → IsCeiling n b (ceiling n b)
unfolding ceiling
ceiling_is n (pos k) h = negated_is n (int_div_euclid (neg_ℤ n) (pos k)) k (div-parts (neg_ℤ n) k (omega (arith, ints)))
ceiling_is n (negsuc k) h = absurd (omega (arith, ints))

pub ceiling_within : (n b : ℤ) → pos 1 ≤ℤ b → IsShare b n → IsWithinTwoNights (ceiling n b)
ceiling_within n b h share =
    let is = ceiling_is n b h in
    record {
      not_low = order_of_times (neg_ℤ (pos 5440)) (ceiling n b) b (omega (arith, ints)) (omega (arith, ints, share.not_low, is.reaches));
      not_high = (let less : ceiling n b <ℤ pos 5441 = less_of_times (ceiling n b) (pos 5441) b (omega (arith, ints)) (omega (arith, ints, share.not_high, is.least)) in omega (arith, ints, less));
    }

pub share_is : (times minute : ℤ) → pos 0 ≤ℤ times → IsWithinTwoNights minute → IsShare times (minute *ℤ times)
share_is times minute h is = record {
  not_low = times_mono (neg_ℤ (pos 5440)) minute times h is.not_low;
  not_high = times_mono minute (pos 5440) times h is.not_high;
}

-- two shares of one whole
pub shares_are : (a b s t : ℤ) → IsShare (b -ℤ a) s → IsShare a t → IsShare b (s +ℤ t)
shares_are a b s t first second = record {
  not_low = omega (arith, ints, first.not_low, second.not_low);
  not_high = omega (arith, ints, first.not_high, second.not_high);
}
