-- What is to be done with the tables of a job that ends.
use Rattle.std.specs.Prelude.{Some, None, Option}
use Rattle.slots.specs.declared.job.Event.{Event}
use Rattle.slots.specs.declared.job.Event.TheVariants.{Close, GiveUp}
use Rattle.slots.specs.declared.job.Task.{Task}

-- closed, what the slot runs is done; given up, the tables stay as they are, and so with a free slot
abbrev pub effect_of : Option Task → Event → Option Task
effect_of None event = None
effect_of (Some task) Close = Some task
effect_of (Some task) GiveUp = None
