-- The names that the definitions of the crates above are written in: the library's numbers, lists
-- and tests, and those of this crate.
pub use Rattle.std.specs.Prelude.{ℕ, zero, suc, ◌+◌, ◌-◌, ◌*◌, ◌^◌, ◌≤◌, ◌≡◌, Bool, true, false}
pub use Rattle.std.specs.Prelude.{not, cond, ◌&&◌, ◌||◌, List, [], ◌∷◌, ◌++◌, T, eqb, ltb, leb, ℤ}
pub use Rattle.std.specs.Prelude.{pos, negsuc, neg_ℤ, nat_abs, ◌+ℤ◌, ◌-ℤ◌, ◌*ℤ◌, length, get_or}
pub use Rattle.std.specs.Int.Bits.{bit_and, bit_or}
pub use Rattle.std.specs.Int.Signed.{lt_z}
pub use Rattle.integers.specs.Numbers.{lies, eq_z, exactly_one, fits_width, turned, floor_by}
pub use Rattle.integers.specs.Numbers.{lowest, cleared, digit, any_below, low_digits}
pub use Rattle.integers.specs.Lists.{tab, at_front, flat, first_bad, Each}
pub use Rattle.integers.specs.Bytes.{of_bytes, signed_of_bytes, bytes_of, part, same_bytes}
