use Rattle.look_commands.proofs.command_save.save.Goals as goal

pub write_mag-requires : goal.write_mag-requires
write_mag-requires c = record { cell = c.requires }
