use Rattle.ndx_index.proofs.pages.remove.+remove_under.Given as goal

abbrev pub decreases-remove_under : goal.decreases-remove_under
decreases-remove_under l = l.level
