use Rattle.nr_recorder.proofs.book.Book.new.Goals as goal
use Rattle.nr_recorder.proofs.Booking.{book_at, no_book}

pub invariant_of-result : goal.invariant_of-result
invariant_of-result c =
    book_at c.new.result c.new-2.result c.in_ok-new.field-0.value c.new-4.result c.in_ok-new.ensures.ok
    (no_book c.new.result c.new-2.result c.new-4.result c.new.ensures c.new-2.ensures c.new-4.ensures)
