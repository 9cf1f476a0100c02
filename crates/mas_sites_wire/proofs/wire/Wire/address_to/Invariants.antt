use Rattle.mas_sites_wire.proofs.wire.Wire.address_to.Given as goal

abbrev pub ghosts-address : goal.ghosts-address
ghosts-address a = record { sender = a.sender; agents = a.agents }
