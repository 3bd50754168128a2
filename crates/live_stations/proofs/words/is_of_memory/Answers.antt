use Rattle.std.proofs.Common.{rules, ◌≢◌, false}
use Rattle.clap.specs.Words.{kind_of}
use Rattle.clap.specs.declared.error.kind.ErrorKind.TheVariants.{OutOfMemory}
use Rattle.live_stations.proofs.SetupLaws.{not_taken}
use Rattle.live_stations.proofs.words.is_of_memory.Goals as goal

pub returns-in-CommandLine : goal.returns-in-CommandLine
returns-in-CommandLine c = record {
  no = λ words why is_false.
      let other : kind_of c.in-CommandLine.error ≢ OutOfMemory = search rules in
      not_taken words c.args.ending.now c.in-CommandLine.error c.in-CommandLine.is why other;
}
