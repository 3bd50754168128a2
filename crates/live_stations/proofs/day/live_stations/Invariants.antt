use Rattle.live_stations.proofs.day.live_stations.Given as goal

abbrev pub ghosts-live_with : goal.ghosts-live_with
ghosts-live_with g a = record { hearings = a.ends.hearings.items; answers = a.ends.answers.items }
