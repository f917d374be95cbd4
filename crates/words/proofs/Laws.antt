-- What the definitions of specs/ say, by subject, for the proofs here and in the rooms above.
pub mod Outcomes
pub mod Table
pub mod Rights
pub mod Values
pub use Rattle.words.proofs.Laws.Outcomes.{refused_not_done, passed, both_passed, three_passed, both_pass, or-false}
pub use Rattle.words.proofs.Laws.Table.{cause_of_number, number_of_cause, cause_some, cause_small, cause_one, found}
pub use Rattle.words.proofs.Laws.Rights.{width_passed, RightFormat, right_format, format_right, Right, right, word_right, small, machine}
pub use Rattle.words.proofs.Laws.Rights.{blank_right, plain_right, plain_passes, RightRoundBit, round_bit_right, round_bit_passes}
pub use Rattle.words.proofs.Laws.Rights.{half_unit_right, half_unit_passes}
pub use Rattle.words.proofs.Laws.Values.{plain_law, round_bit_law, half_unit_law, half, value_law, value_abs, three_amounts_differ}
