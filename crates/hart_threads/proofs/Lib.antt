mod Aside
mod Picking
mod Finishing
