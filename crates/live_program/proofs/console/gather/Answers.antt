use Rattle.live_program.proofs.ConsoleLaws.{printed_on, printed_then}
use Rattle.live_program.proofs.console.gather.Goals as goal

pub returns-in-Ok : goal.returns-in-Ok
returns-in-Ok g c = record { text = λ start text has. printed_on start (g.W.Write.contents c.args.out.now) c.args.page.now.items c.try_extend_from_slice.new.self.items text c.args.bytes.now has c.in-Ok.ensures.ok }

pub returns : goal.returns
returns g c = record {
  text = λ start text has.
      printed_then c.write_all.result start (g.W.Write.contents c.args.out.now) (g.W.Write.contents c.print_page.new.out) (g.W.Write.contents c.write_all.new.self)
      c.args.page.now.items c.try_extend_from_slice-2.new.self.items text c.args.bytes.now has
      (rw c.in_default.ensures.err at c.in_ok-print_page.ensures.text)
      (rw (← c.in_default-try_extend_from_slice.ensures.err) at c.in_ok-print_page.ensures.none) c.write_all.ensures.bytes;
}
