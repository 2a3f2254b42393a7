use Rattle.asl_c_programs.proofs.tables.fits.Goals as goal

pub returns : goal.returns
returns c = c.verified_images_fit.ensures.facts c.args.program.now c.code.ensures.verified
