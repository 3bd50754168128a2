use Rattle.std.proofs.Common.{length, sym, ap, ◌∙◌}
use Rattle.shared_catalogue.specs.Board.{known_of, writer_of}
use Rattle.shared_catalogue.specs.RowLaws.{status_rows-start}
use Rattle.shared_catalogue.proofs.locked.LockedCatalogue.new.Goals as goal

pub invariant_of-result : goal.invariant_of-result
invariant_of-result g c =
    let r = c.requires in
    record {
      counted = r.book.0 ∙ sym (ap length r.empty);
      of_tables = r.named;
      no_part = r.book.1;
      no_amount = r.book.2;
      of_board = r.pass.0;
      all = r.pass.1 ∙ ap writer_of (λ i. known_of (sym (status_rows-start c.args.catalogue r.empty) i) (sym r.empty i));
    }
