use Rattle.ndx_index.proofs.pages.insert.+insert_under.Given as goal

abbrev pub decreases-insert_under : goal.decreases-insert_under
decreases-insert_under l = l.level
