-- ONE REPLY: two replies that the promises allow for the same input are equal, for each thing that comes back
-- and each place that is lent. Every promise is an equation with a function of the input.
use Rattle.std.specs.Prelude.{ℕ, ◌≡◌, List}
use Rattle.meaning.specs.OneReply.{one_reply}
use Rattle.answers.specs.declared.Answer.{Answer}
use Rattle.answers.specs.Answers.{refusal, answer, table_after, checked, table_after_check}
use Rattle.answers.specs.Answers.{list_answer, solved}
use Rattle.answers.specs.Printed.{printed, printed_solved, bytes_written, buffer_after}

-- the refusal
pub one_refusal : (number line : ℕ) {a b : Answer} → a ≡ refusal number line → b ≡ refusal number line → a ≡ b
one_refusal number line = one_reply

module _ (t : List ℕ) where
  -- the answer, where records are lent and where none are
  pub one_checked_answer : (records words : ℕ) {a b : Answer}
      → a ≡ checked t records words → b ≡ checked t records words → a ≡ b
  one_checked_answer records words = one_reply

  pub one_answer : (words : ℕ) {a b : Answer} → a ≡ answer t words → b ≡ answer t words → a ≡ b
  one_answer words = one_reply

  -- the table afterwards
  pub one_checked_table : (records : ℕ) (table : List ℕ) {a b : List ℕ}
      → a ≡ table_after_check t records table → b ≡ table_after_check t records table → a ≡ b
  one_checked_table records table = one_reply

  pub one_table : (table : List ℕ) {a b : List ℕ} → a ≡ table_after t table → b ≡ table_after t table → a ≡ b
  one_table table = one_reply

  -- what is printed
  pub one_output : {a b : List ℕ} → a ≡ printed t → b ≡ printed t → a ≡ b
  one_output = one_reply

  -- where a list is solved
  pub one_solved_answer : (records : ℕ) (lent : List ℕ) {a b : Answer}
      → a ≡ solved t records lent → b ≡ solved t records lent → a ≡ b
  one_solved_answer records lent = one_reply

  pub one_list_answer : (lent : List ℕ) {a b : Answer}
      → a ≡ list_answer t lent → b ≡ list_answer t lent → a ≡ b
  one_list_answer lent = one_reply

  pub one_solved_output : (lent : List ℕ) {a b : List ℕ}
      → a ≡ printed_solved t lent → b ≡ printed_solved t lent → a ≡ b
  one_solved_output lent = one_reply

-- the number of bytes written of some lines into a buffer, and the buffer afterwards
module _ (lines : List ℕ) where
  pub one_number_written : (buffer_length : ℕ) {a b : ℕ}
      → a ≡ bytes_written lines buffer_length → b ≡ bytes_written lines buffer_length → a ≡ b
  one_number_written buffer_length = one_reply

  pub one_buffer : (buffer : List ℕ) {a b : List ℕ}
      → a ≡ buffer_after lines buffer → b ≡ buffer_after lines buffer → a ≡ b
  one_buffer buffer = one_reply
