use Rattle.files_in_place.proofs.system_calls.folder_names.Given as goal

-- the names are those of the folder at the path
abbrev pub invariant-loop : goal.invariant-loop
invariant-loop g l = g.R.SystemCalls.answers.opens_names l.dir l.fn.folder
