use Rattle.rules.proofs.Administration.{books_hold, numbers_answered, limits_hold}
use Rattle.rules.proofs.laws.books_hold.Goals as goal

pub returns : goal.returns
returns c = record { kept = books_hold; numbers = numbers_answered; limits = limits_hold }
